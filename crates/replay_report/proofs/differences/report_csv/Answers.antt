use Rattle.std.proofs.Common.{◌≡◌, ℕ, List, [], refl, subst}
use Rattle.std.specs.Prelude.{IfOk}
use Rattle.replay_report.specs.Differences.{csv_text}
use Rattle.replay_report.specs.Inside.Written.{written}
use Rattle.replay_report.proofs.Lasts.{csv_is}
use Rattle.replay_report.proofs.differences.report_csv.Goals as goal

pub returns : goal.returns
returns c =
    let from = c.from_writer-writer.ensures in
    let empty : written c.from_writer-writer.result ≡ [] = rw (from.wtr, c.new-2.ensures.items, from.empty) refl in
    let calls = c.as_slice-calls.result.now in
    let replies = c.in_ok-replies.replies.items in
    let text = csv_is calls c.as_slice.result.now c.as_slice-2.result.now replies c.in_ok-replies.ensures in
    let whole : written c.write_lines.new.writer ≡ csv_text calls c.as_slice.result.now c.as_slice-2.result.now =
    rw (c.in_ok-write_lines.ensures.written, c.as_slice-3.ensures.value, c.in_ok-write_head.ensures.written, empty) text in
    subst (λ (text : List ℕ). IfOk c.bytes_of.result (λ bytes. bytes ≡ text)) (rw (c.as_slice-calls.ensures, c.as_slice.ensures, c.as_slice-2.ensures) at whole) c.bytes_of.ensures
