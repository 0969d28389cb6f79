use Rattle.std.proofs.Common.{◌≡◌, ◌≢◌, true, false, take}
use Rattle.state_memo.proofs.same.are_same.Given as goal

-- as long as no byte differed, all before are the same
abbrev pub invariant-bytes : goal.invariant-bytes
invariant-bytes l = record {
  same : l.same ≡ true → take l.i l.these ≡ take l.i l.those;
  other : l.same ≡ false → l.these ≢ l.those;
}
