use Rattle.std.proofs.Common.{◌∙◌, arith, drop, map, take}
use Rattle.lane_ascii.{specs.Leads.is_lead, proofs.FirstLines.leads_in_front}
use Rattle.lane_ascii.proofs.first_line.leads_before.Goals as goal

pub returns : goal.returns
returns c =
    let behind = drop c.args.at c.args.bytes.now in
    c.ones_before.ensures (map is_lead (take 64 behind)) c.leads_in.ensures ∙ leads_in_front c.args.front 64 behind (omega (arith, c.requires.front))
