use Rattle.words.proofs.Cuts.{front, splits, whole, behind, only, none, later, counts, many, each, written, written_count, listed}
use Rattle.words.proofs.Reading.{reads, reads_signed, reads_32}
use Rattle.words.specs.Words.{blank}
use Rattle.words.proofs.words_laws.Goals as goal

pub returns : goal.returns
returns c =
    record {
      splits = splits;
      before = λ line. (front blank line).0;
      whole = whole;
      behind = behind;
      only = only;
      none = none;
      later = later;
      counts = counts;
      many = many;
      each = each;
      written = written;
      written_count = written_count;
      listed = listed;
      reads = reads;
      reads_signed = reads_signed;
      reads_32 = reads_32;
    }
