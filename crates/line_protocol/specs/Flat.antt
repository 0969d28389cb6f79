-- Flat objects: what they stand for, and how they are written.
use Rattle.std.specs.Prelude.{◌≡◌, ℕ, ◌<◌, ◌^◌, List, ◌∷◌, ◌++◌, map, fold, take, codes, decimal, false, ⊤}
use Rattle.std.specs.Borrow.{Bor}
use Rattle.json.specs.Token.{Token}
use Rattle.json.specs.Json as json
use Rattle.json.specs.{Print.quoted, Spaced.IsGap, Spaced.AreGaps, Spaced.print_spaced, Tree.json_tokens}
use Rattle.serde_json.specs.Data.{Data, number, unsigned, string, object, Members, no_members, put}
use Rattle.position_map.specs.declared.position.{Position.Position, Range.Range as TextRange}
use Rattle.line_protocol.specs.declared.request.flat.object.FlatValue.{FlatValue, TheVariants.Whole, TheVariants.Text, TheVariants.Point, TheVariants.Range}
use Rattle.line_protocol.specs.declared.request.flat.object.FlatObject.{FlatObject}

-- ---- data

abbrev pub whole_data : ℕ → Data
whole_data n = number (unsigned n)

abbrev pub position_data : Position → Data
position_data p = object (put (codes "character") (whole_data p.character) (put (codes "line") (whole_data p.line) no_members))

abbrev pub range_data : TextRange → Data
range_data r = object (put (codes "end") (position_data r.end) (put (codes "start") (position_data r.start) no_members))

abbrev pub value_data : FlatValue → Data
value_data (Whole n) = whole_data n
value_data (Text t) = string t.now
value_data (Point p) = position_data p
value_data (Range r) = range_data r

abbrev pub Member : Type 0
Member = Bor (List ℕ) × FlatValue

-- the members go in one after another, so the last value of a key stays
abbrev pub members_data : List Member → Members
members_data ms = fold (λ found m. put m.0.now (value_data m.1) found) no_members ms

abbrev pub object_data : FlatObject → Data
object_data o = object (members_data (take o.count o.members))

-- ---- as JSON, in the order in which members are written

abbrev pub whole_json : ℕ → json.Json
whole_json n = json.number (decimal n)

abbrev pub position_json : Position → json.Json
position_json p = json.object (json.member (codes "line") (whole_json p.line) (json.member (codes "character") (whole_json p.character) json.no_members))

abbrev pub range_json : TextRange → json.Json
range_json r = json.object (json.member (codes "start") (position_json r.start) (json.member (codes "end") (position_json r.end) json.no_members))

abbrev pub value_json : FlatValue → json.Json
value_json (Whole n) = whole_json n
value_json (Text t) = json.string t.now
value_json (Point p) = position_json p
value_json (Range r) = range_json r

-- each number fits in 64 bits
abbrev pub FitsPosition : Position → Type 0
FitsPosition p = (p.line < 2 ^ 64) × (p.character < 2 ^ 64)

abbrev pub Fits : FlatValue → Type 0
Fits (Whole n) = n < 2 ^ 64
Fits (Text t) = ⊤
Fits (Point p) = FitsPosition p
Fits (Range r) = FitsPosition r.start × FitsPosition r.end

-- ---- as text

-- the text begins with this JSON, with gaps before its tokens, and `rest` follows it
abbrev pub Begins : List ℕ → json.Json → List ℕ → Type 0
Begins text j rest = (ps : List (List ℕ × Token)) × AreGaps ps × (map (λ p. p.1) ps ≡ json_tokens j) × (text ≡ print_spaced false ps ++ rest)

-- the text begins with a key and its colon
abbrev pub IsKey : List ℕ → List ℕ → List ℕ → Type 0
IsKey text key rest = (gap : List ℕ) × IsGap gap × (text ≡ gap ++ (quoted key ++ 58 ∷ rest))

-- the text begins with a brace that opens an object
abbrev pub IsOpened : List ℕ → List ℕ → Type 0
IsOpened text rest = (gap : List ℕ) × IsGap gap × (text ≡ gap ++ 123 ∷ rest)

-- the text begins with a number
abbrev pub IsWhole : List ℕ → ℕ → List ℕ → Type 0
IsWhole text n rest = (gap : List ℕ) × IsGap gap × (text ≡ gap ++ (decimal n ++ rest))

abbrev pub IsPoint : List ℕ → Position → List ℕ → Type 0
IsPoint text p rest = Begins text (position_json p) rest × FitsPosition p

abbrev pub IsRange : List ℕ → TextRange → List ℕ → Type 0
IsRange text r rest = Begins text (range_json r) rest × FitsPosition r.start × FitsPosition r.end

abbrev pub IsValue : List ℕ → FlatValue → List ℕ → Type 0
IsValue text v rest = Begins text (value_json v) rest × Fits v

-- the text begins with this member
abbrev pub IsMember : List ℕ → Member → List ℕ → Type 0
IsMember text m rest = (tail : List ℕ) × IsKey text m.0.now tail × IsValue tail m.1 rest
