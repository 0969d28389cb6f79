-- The text of bytes, and a text with a part of it replaced.
use Rattle.std.specs.Prelude.{ℕ, List, ◌++◌, take, drop, flat_map}
use Rattle.decoder_core.specs.{declared.item.Ended.Ended, Queue.Table, Queue.run, Queue.feed, Text.item_code_points}

-- the code points of items, whatever their places
abbrev pub ended_text : List Ended → List ℕ
ended_text es = flat_map (λ (e : Ended). item_code_points e.item) es

-- the text of all that is read up to the end
abbrev pub run_text : {S : Type 0} → Table S → S → List ℕ → List ℕ
run_text table s q = ended_text (run table s q)

-- the text that is there once these bytes are read
abbrev pub fed_text : {S : Type 0} → Table S → S → List ℕ → List ℕ
fed_text table s q = ended_text (feed table s q).items

-- a text with its code points from i to j replaced
abbrev pub replaced : List ℕ → ℕ → ℕ → List ℕ → List ℕ
replaced text i j put = take i text ++ put ++ drop j text
