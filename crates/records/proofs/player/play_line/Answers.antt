use Rattle.std.proofs.Common.{Some, Option, List, ℕ, ap}
use Rattle.devices.specs.{Devices.Reads, Devices.Writes}
use Rattle.records.proofs.Playing.{line_played}
use Rattle.records.proofs.player.play_line.Goals as goal

pub returns : goal.returns
returns c =
    let traced = c.in-Ok.ensures.traces in
    let reads = c.in-Ok.ensures.reads in
    let left : Option (List ℕ) = Some c.trace.new.reader.rest.now in
    let end = rw reads.1 at reads.2.end in
    line_played c.law_lines.ensures c.law_traces_in_order.ensures.events _ _ c.args.line.now traced.read c.bytes.result.now
    (Some c.new-reader.result.rest.now) left
    (Some c.new-said.result.contents.items) (Some c.trace.new.writer.contents.items) c.requires
    (ap (λ (r : Reads). r.left) c.new-reader.ensures) traced.consumes end
    (ap (λ (w : Writes). w.written) c.new-said.ensures) c.bytes.ensures traced.holds
    (rw (c.bytes-3.ensures, c.out_of_memory.ensures.text) at c.in-None.ensures)
