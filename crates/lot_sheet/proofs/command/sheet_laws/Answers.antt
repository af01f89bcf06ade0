use Rattle.lot_sheet.proofs.Lines.{reads-bid}
use Rattle.lot_sheet.proofs.command.sheet_laws.Goals as goal

pub returns : goal.returns
returns c = record { reads = reads-bid }
