use Rattle.std.proofs.Common.{◌∙◌, ap, is_ok, sym, arith, length, take, ◌≡◌, ◌+◌, ◌++◌}
use Rattle.connections.specs.Lines.{has_end}
use Rattle.records.{proofs.Playing.no_end_either, proofs.Playing.no_end_before, proofs.Playing.played_here, proofs.Playing.stops_here, specs.Playing.Place}
use Rattle.records.proofs.player.Player.take.Goals as goal

pub invariant_of-self : goal.invariant_of-self
invariant_of-self c =
    ap has_end c.extend_from_slice.ensures.items
    ∙ no_end_either (is_ok c.extend_from_slice.result) c.self.inside.line.items c.args.bytes.now c.self.invariant c.in_default.ensures

pub play_next-requires : goal.play_next-requires
play_next-requires c =
    ap has_end (c.deref.ensures.value ∙ c.in-Ok-extend_from_slice.ensures.items)
    ∙ no_end_before c.law_lines.ensures c.self.inside.line.items c.args.bytes.now c.in-Some.end c.self.invariant c.in-Some.ensures.2

pub invariant_of-self-in-Err-play_next : goal.invariant_of-self-in-Err-play_next
invariant_of-self-in-Err-play_next c =
    ap has_end c.in-Ok-extend_from_slice.ensures.items
    ∙ no_end_before c.law_lines.ensures c.self.inside.line.items c.args.bytes.now c.in-Some.end c.self.invariant c.in-Some.ensures.2

pub returns-in-Err-play_next-clause-plays : goal.returns-in-Err-play_next-clause-plays
returns-in-Err-play_next-clause-plays c =
    let cuts = c.law_lines.ensures in
    let bytes = c.args.bytes.now in
    let place : Place = record { line = c.self.inside.line.items; whole = c.self.inside.whole; head = c.self.inside.head } in
    let line = c.deref.ensures.value ∙ c.in-Ok-extend_from_slice.ensures.items in
    rw (← c.self.view_is) (stops_here cuts place bytes c.in-Some.end c.in-Some.ensures.1 c.in-Some.ensures.2 c.in-Some.ensures.0 c.args.gateway.now
    c.play_next.new.gateway c.play_next.new.head c.in-Err-play_next.fault (rw line at c.in-Err-play_next.ensures))

pub returns-clause-plays : goal.returns-clause-plays
returns-clause-plays c =
    let cuts = c.law_lines.ensures in
    let bytes = c.args.bytes.now in
    let place : Place = record { line = c.self.inside.line.items; whole = c.self.inside.whole; head = c.self.inside.head } in
    let line = c.deref.ensures.value ∙ c.in-Ok-extend_from_slice.ensures.items in
    let next : Place = record { line = c.clear.new.self.items; whole = c.self.inside.whole + (c.len.result + 1); head = c.play_next.new.head } in
    let long : c.len.result ≡ length (c.self.inside.line.items ++ take c.in-Some.end bytes) = c.len.ensures ∙ sym c.deref.ensures.len ∙ ap length line in
    let whole : next.whole ≡ place.whole + length (place.line ++ take c.in-Some.end bytes) + 1 = omega (arith, long) in
    rw (← c.self.view_is) (played_here cuts place bytes c.in-Some.end c.in-Some.ensures.1 c.in-Some.ensures.2 c.in-Some.ensures.0 c.args.gateway.now
    c.play_next.new.gateway next (rw line at c.in-Ok-play_next.ensures) c.clear.ensures.items whole)
