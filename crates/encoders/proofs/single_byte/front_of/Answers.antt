use Rattle.std.proofs.Common.{ap, ◌≤◌, take}
use Rattle.lane_ascii.specs.Runs.{ascii_len}
use Rattle.encoders.proofs.{Bytewise.ascii-boundary, Bytewise.front-joined, Bytewise.near-ascii, Bytewise.past-run, single_byte.front_of.Goals.After-ascii_run}
use Rattle.encoders.proofs.single_byte.front_of.Goals as goal

-- what was found is ASCII before the text
low : (c : After-ascii_run) → c.ascii_run.result ≤ ascii_len c.parts.rest.now
low c = near-ascii c.min.result c.ascii_run.result _ c.parts.rest.now (ap (take c.min.result) c.as_bytes.ensures.value) c.ascii_run.ensures

pub split_at-requires : goal.split_at-requires
split_at-requires c = ascii-boundary c.parts.rest.now c.ascii_run.result (low c) c.parts.invariant.0

pub returns-then-count-eq0 : goal.returns-then-count-eq0
returns-then-count-eq0 c =
    past-run _ c.parts.rest.now c.ascii_run.result c.parts.invariant.1 (low (goal.at.returns-then-count-eq0 c).After-ascii_run)
    c.split_at.ensures.front c.split_at.ensures.back (rw c.as_bytes-in-parts.ensures.value at c.in_ok-extend_from_slice.ensures.items)

pub parts-preserved : goal.parts-preserved
parts-preserved c =
    let run = past-run _ c.parts.rest.now c.ascii_run.result c.parts.invariant.1 (low (goal.at.parts-preserved c).After-ascii_run)
    c.split_at.ensures.front c.split_at.ensures.back (rw c.as_bytes-in-parts.ensures.value at c.in_ok-extend_from_slice.ensures.items) in
    (c.write_front-count.ensures.valid, rw c.in_ok-extend_from_slice-2.ensures.items (front-joined _ run c.write_front-count.ensures.front))
