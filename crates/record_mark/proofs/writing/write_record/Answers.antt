use Rattle.std.proofs.Common.{◌≡◌, length, ap, ◌∙◌}
use Rattle.record_mark.specs.Sent.{mark_of_last}
use Rattle.byte_io.proofs.Appending.{WroteFront-longer, Wrote-after, Wrote-failed}
use Rattle.record_mark.proofs.writing.write_record.Goals as goal

pub returns-in_err-write_whole : goal.returns-in_err-write_whole
returns-in_err-write_whole g c =
    let bytes = c.args.frame.now in
    let mark : c.last_mark.result ≡ mark_of_last (length bytes) = c.last_mark.ensures ∙ ap mark_of_last c.len.ensures.value in
    let failed = rw mark at c.in_err-write_whole.ensures in
    Wrote-failed _ _ _ _ c.from_residual.ensures.0 (WroteFront-longer _ _ (mark_of_last (length bytes)) bytes failed)

pub returns : goal.returns
returns g c =
    let bytes = c.args.frame.now in
    let mark : c.last_mark.result ≡ mark_of_last (length bytes) = c.last_mark.ensures ∙ ap mark_of_last c.len.ensures.value in
    let first = rw mark at c.in_ok-write_whole.ensures in
    let second = rw c.as_slice.ensures at c.write_whole-2.ensures in
    Wrote-after _ _ _ c.write_whole-2.result (mark_of_last (length bytes)) bytes first second
