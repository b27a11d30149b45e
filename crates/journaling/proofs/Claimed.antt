-- What the contracts of reader and writer carry. Assumes nothing.
use Rattle.journaling.specs.Claims.{ReaderClaims, WriterClaims}
use Rattle.journaling.proofs.Trips.{read_write, allowed, write_read, read_if_written, answers, content, output_kept}
use Rattle.journaling.proofs.Longest.{longest_journal}
use Rattle.journaling.proofs.Prefix.{judged_alike}

pub reader_claims : ReaderClaims
reader_claims =
    record {
      read_write = read_write;
      allowed = allowed;
      answers = answers;
      content = content;
      longest_journal = longest_journal;
      judged_alike = judged_alike;
    }

pub writer_claims : WriterClaims
writer_claims =
    record {
      write_read = write_read;
      answers = λ x out held w. answers _ x (write_read x out held w);
      read_if_written = read_if_written;
      output_kept = output_kept;
    }
