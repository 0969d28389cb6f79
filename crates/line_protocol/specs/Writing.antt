-- How the code writes a reply line. Nothing here has to be believed.
use Rattle.std.specs.Prelude.{ℕ, suc, ◌&&◌, ◌||◌, ◌==◌, Bool, true, not, nat_lt, List, [], ◌∷◌, ◌+◌, ◌^◌, ◌≤◌, ◌<◌, length, take, drop, ◌≡◌, ◌++◌, Some}
use Rattle.std.specs.Fmt.{decimal}
use denote.Ref.{Bor}
use Rattle.json.specs.Print.{quoted}
use Rattle.serde_json.specs.Data.{Data, null, boolean, string, Members, no_members, member}
use Rattle.serde_json.specs.{Written.comma_if, Written.compact_text, Sent.IsTextOf}
use Rattle.line_protocol.specs.{Replies.merged, Replies.Reason, Values.whole, Values.place_data, Values.point_data}
use Rattle.line_protocol.specs.declared.reply_line.{Storage.Storage, Storage.TheVariants.Inline, Storage.TheVariants.Allocated, members.Content.Content}
use Rattle.line_protocol.specs.declared.reply_line.members.Content.TheVariants.{Number, Small, Text, Flag, At, Point, Nothing}
use Rattle.line_protocol.specs.declared.reply_line.reasons.More.{More}
use Rattle.line_protocol.specs.declared.reply_line.reasons.{More.TheVariants.NoMore, More.TheVariants.One, More.TheVariants.Two, Reason.Reason as WrittenReason}
use Rattle.serde.specs.Event.{Log}

-- ---- text that stands in a string of JSON as it is

abbrev pub is_plain : ℕ → Bool
is_plain b = not (nat_lt b 32) && not ((b == 34) || (b == 92))

abbrev pub all_plain : List ℕ → Bool
all_plain [] = true
all_plain (b ∷ bs) = is_plain b && all_plain bs

-- ---- the members of an object that is written without memory

abbrev pub MemberList : Type 0
MemberList = List (Bor (List ℕ) × Content)

abbrev pub content_data : Content → Data
content_data (Number n) = whole n
content_data (Small n) = whole n
content_data (Text t) = string t.now
content_data (Flag b) = boolean b
content_data (At place) = place_data place
content_data (Point position) = point_data position
content_data Nothing = null

abbrev pub members_of : MemberList → Members
members_of [] = no_members
members_of (m ∷ ms) = member m.0.now (content_data m.1) (members_of ms)

abbrev pub content_is_plain : Content → Bool
content_is_plain (Number n) = true
content_is_plain (Small n) = true
content_is_plain (Text t) = all_plain t.now
content_is_plain (Flag b) = true
content_is_plain (At place) = true
content_is_plain (Point position) = true
content_is_plain Nothing = true

abbrev pub are_plain : MemberList → Bool
are_plain [] = true
are_plain (m ∷ ms) = all_plain m.0.now && content_is_plain m.1 && are_plain ms

-- members before others
abbrev pub followed : MemberList → Members → Members
followed [] more = more
followed (m ∷ ms) more = member m.0.now (content_data m.1) (followed ms more)

-- the text of members before others, with a comma before each, except before the first if nothing precedes it
abbrev pub front_text : Bool → MemberList → List ℕ
front_text later [] = []
front_text later (m ∷ ms) = (comma_if later ++ (quoted m.0.now ++ 58 ∷ compact_text (content_data m.1))) ++ front_text true ms

-- whether something precedes what follows them
abbrev pub is_later : Bool → MemberList → Bool
is_later later [] = later
is_later later (m ∷ ms) = true

-- the most bytes of some texts: the name of a field, and that of an encoding; a number of 64 bits, and one of 32; two numbers with a comma. Then
-- those of a place, which is a list of two; of a position; of `true` or `false`; and of `null`
abbrev pub name_room : ℕ
name_room = 20

abbrev pub encoding_room : ℕ
encoding_room = 14

abbrev pub number_room : ℕ
number_room = 20

abbrev pub small_room : ℕ
small_room = 10

abbrev pub near_room : ℕ
near_room = 41

abbrev pub place_room : ℕ
place_room = 44

abbrev pub point_room : ℕ
point_room = 63

-- of an entry of a list, which is six numbers at most
abbrev pub entry_room : ℕ
entry_room = 128

abbrev pub flag_room : ℕ
flag_room = 5

abbrev pub null_room : ℕ
null_room = 4

-- the most bytes that it takes
abbrev pub content_room : Content → ℕ
content_room (Number n) = number_room
content_room (Small n) = small_room
content_room (Text t) = length t.now + 2
content_room (Flag b) = flag_room
content_room (At place) = place_room
content_room (Point position) = point_room
content_room Nothing = null_room

-- the most bytes that they take, with a comma before each member and the closing bracket
abbrev pub room_of : MemberList → ℕ
room_of [] = 1
room_of (m ∷ ms) = length m.0.now + 4 + content_room m.1 + room_of ms

-- the member that comes next in two lists, and what is left of them behind it
pub record IsNext (first second : MemberList) (m : Bor (List ℕ) × Content) (rest other : MemberList) : Type 0 where
  pub goes_on : merged (members_of first) (members_of second) ≡ member m.0.now (content_data m.1) (merged (members_of rest) (members_of other))
  pub plain : (are_plain first && are_plain second) ≡ ((all_plain m.0.now && content_is_plain m.1) && (are_plain rest && are_plain other))
  pub room : room_of first + room_of second ≡ length m.0.now + 4 + content_room m.1 + (room_of rest + room_of other)
  pub fewer : length first + length second ≡ suc (length rest + length other)

-- ---- the digits of a number, from which those of one near it are made

-- the digits before the last four begin at `begin`; `base` has zeros for the last four. With other last four digits they are those of the number
-- that is greater by these. If there are no four, no number is near
pub record IsFront (base begin : ℕ) (text : List ℕ) : Type 0 where
  pub within : begin ≤ 20
  pub behind : base + 1000 < 2 ^ 64 → begin ≤ 16
  pub goes_on : (low : ℕ) → 1000 ≤ low → low < 10000 → base + low < 2 ^ 64 → drop begin (take 16 text) ++ decimal low ≡ decimal (base + low)

-- ---- a reason, as the code has it

abbrev pub members_in : More → MemberList
members_in NoMore = []
members_in (One key content) = (key, content) ∷ []
members_in (Two key content other behind) = (key, content) ∷ (other, behind) ∷ []

abbrev pub reason_of : WrittenReason → Reason
reason_of r = record { name = r.name.now; id = r.id; change = r.change; more = members_of (members_in r.more) }

-- the most bytes of a name and the further members
abbrev pub reason_room : ℕ
reason_room = 100

-- ---- a line that is written by the events of a value

-- the text of the events that the value sends, and a line end
pub record IsLineOf (writes : Log → Log → Type 0) (line : List ℕ) : Type 0 where
  pub log : Log
  pub text : List ℕ
  pub sent : writes (Some []) log
  pub written : IsTextOf log text
  pub ends : line ≡ text ++ 10 ∷ []

-- ---- the bytes of a reply line, however it is stored

abbrev pub bytes_of : Storage → List ℕ
bytes_of (Inline text) = text
bytes_of (Allocated bytes) = bytes.items
