use Rattle.std.proofs.Common.{refl}
use Rattle.words.proofs.Names.{same_names, text_is}
use Rattle.words.proofs.text.Goals as goal

pub returns-clause-text : goal.returns-clause-text
returns-clause-text c = text_is _ c.args.word.now c.from_utf8.result _ c.unwrap_or.result c.from_utf8.ensures.cases refl c.unwrap_or.ensures

pub returns-clause-names : goal.returns-clause-names
returns-clause-names c = same_names _ c.args.word.now c.from_utf8.result _ c.unwrap_or.result c.from_utf8.ensures.cases refl c.unwrap_or.ensures
