-- The names of a desk's documents.
use Rattle.std.proofs.Common.{◌≡◌, ℕ, ◌<◌, ◌&&◌, ◌||◌, ◌==◌, Bool, true, false, cond, nat_lt, nat_le, List, [], ◌∷◌, length, Option, None, Some, Result, Ok}
use Rattle.std.proofs.Common.{Err, MatchBool, option_and_then, codes, if◌then◌else◌, refl, sym, subst, arith, ltb-false, ltb-true, leb-true}
use Rattle.std.{specs.Cmp.Lexicographic.nat_list_cmp_total, specs.Cmp.Lexicographic.slice_cmp, proofs.lemmas.Bool.or_parts, proofs.lemmas.Bool.and_parts}
use Rattle.std.specs.{Ordering.eq_by_cmp, Ordering.nat_cmp, Option.IsSome, Option.option_map, Str.bytes_eq, Str.is_utf8, Cmp.Equal-is}
use Rattle.enc_names.specs.declared.setting.Setting.{Setting}
use Rattle.desk.specs.{Effects.Move, Effects.Stays, Effects.Puts, Effects.Goes, Effects.base64_bytes, Desk.Office, Desk.effect_of, Desk.moved}
use Rattle.desk.specs.{Commands.Asked, Commands.asked_of, Documents.Entry, Documents.Names}
use Rattle.line_protocol.specs.{Fields.◌>>=◌, Fields.need, Fields.as_name, Fields.max_name_len, Fields.text_at, Fields.on_document, Fields.Ask}
use Rattle.line_protocol.specs.Ops.{DeskOp, Op, desk_ops, ops}
use Rattle.desk.specs.declared.overview.Overview.{Overview}
use Rattle.line_protocol.specs.{declared.request.refusal.Refusal.Refusal, declared.request.field.Field.Field, Values.Data}
use Rattle.line_protocol.specs.Request.{Request, AtDocument, OfDesk, with_id, command_in, overview_in, command_of, request_of, request_of_line, json_of_line}
use Rattle.line_protocol.specs.Step.{LineStep, IsStep, taken, ran_out, line_limit, too_long_text, step_by, step_of, step_on}
use Rattle.connections.specs.Traffic.{Traffic}
use Rattle.connections.specs.Clients.{Numbered, BegunLines, RepliesInOrder, ServesAll, StandFor, begun_after_all, lines_of}
use Rattle.gateway.specs.Head.{Order, Comment, Part, Adoption, Heading, ObeysBy, adoption, described, heading, may_head, order_on, read_or}
use Rattle.gateway.specs.{Trace.after_space, Trace.before_space, Trace.is_skipped, Traced.line_events}
use Rattle.records.specs.Names.{AreNamed, IsNameLong, NoneIsNamed, EventsKeepNames, HeadsKeepNames, PlaysKeepNames}
use Rattle.records.{specs.Playing.PlaysAtHead, specs.Playing.PlaysEach, specs.Playing.PlaysEvents, specs.Playing.PlaysNext, proofs.HeadFirst.stand_there}
use Rattle.std.specs.FinMap as finite
unfoldable use Rattle.line_protocol.specs.Step.{Replies}
use Rattle.line_protocol.specs.declared.request.field.Field.TheVariants as field
use Rattle.gateway.specs.Head as head

-- ---- the name in a command

abbrev IfCommand : Result Asked Field → Type 0
IfCommand (Ok c) = IsNameLong c.doc
IfCommand (Err f) = Unit {0}

record NamedCommand (r : Result Asked Field) : Type 0 where
  is : IfCommand r

abbrev IfNamed : Request → Type 0
IfNamed (AtDocument c) = IsNameLong c.doc
IfNamed (OfDesk overview) = Unit {0}

abbrev IfRequest : Result (ℕ × Request) Refusal → Type 0
IfRequest (Ok request) = IfNamed request.1
IfRequest (Err e) = Unit {0}

record NamedRequest (r : Result (ℕ × Request) Refusal) : Type 0 where
  is : IfRequest r

done : (c : Asked) → IsNameLong c.doc → NamedCommand (Ok c)
done c n = record { is = n }

more : {A : Type 0} (x : Result A Field) (f : A → Result Asked Field) → ((a : A) → NamedCommand (f a)) → NamedCommand (x >>= f)
more (Ok a) f p = p a
more (Err e) f p = record { is = tt }

abbrev IsFor : (List ℕ → Result Asked Field) → Type 0
IsFor f = (name : List ℕ) → IsNameLong name → NamedCommand (f name)

by_length : (text : List ℕ) (f : List ℕ → Result Asked Field) (b : Bool) → ((length text == 0) || nat_lt max_name_len (length text)) ≡ b
    → 0 < length text → IsFor f → NamedCommand (need field.Doc (if b then None else Some text) >>= f)
by_length text f true e some p = record { is = tt }
by_length text f false e some p = p text (some, ltb-false max_name_len (length text) (or_parts (length text == 0) (nat_lt max_name_len (length text)) e).1)

by_text : (text : Option (List ℕ)) (f : List ℕ → Result Asked Field) → IsFor f → NamedCommand (need field.Doc (option_and_then as_name text) >>= f)
by_text None f p = record { is = tt }
by_text (Some []) f p = record { is = tt }
by_text (Some (x ∷ text)) f p = by_length (x ∷ text) f ((length (x ∷ text) == 0) || nat_lt max_name_len (length (x ∷ text))) refl (omega arith) p

named_on : (fields : Data → Result Ask Field) (d : Data) → NamedCommand (on_document fields d)
named_on fields d = by_text (text_at d (codes "doc")) _ (λ name n. more (fields d) _ (λ ask. done (asked_of name ask) n))

-- the command of an op, or else that of another
op_or : (b : Bool) (id : ℕ) (x : Result Asked Field) (y : Result (ℕ × Request) Refusal) → NamedCommand x → NamedRequest y
    → NamedRequest (if b then with_id AtDocument id x else y)
op_or true id (Ok c) y p q = record { is = p.is }
op_or true id (Err f) y p q = record { is = tt }
op_or false id x y p q = q

-- an op of the desk as a whole names no document
overview_or : (b : Bool) (id : ℕ) (x : Result Overview Field) (y : Result (ℕ × Request) Refusal) → NamedRequest y
    → NamedRequest (if b then with_id OfDesk id x else y)
overview_or true id (Ok overview) y q = record { is = tt }
overview_or true id (Err f) y q = record { is = tt }
overview_or false id x y q = q

unnamed_in : (os : List DeskOp) (d : Data) (id : ℕ) (op : List ℕ) → NamedRequest (overview_in os d id op)
unnamed_in [] d id op = record { is = tt }
unnamed_in (o ∷ os) d id op = overview_or (bytes_eq op o.0) id (o.1 d) (overview_in os d id op) (unnamed_in os d id op)

named_in : (os : List Op) (d : Data) (id : ℕ) (op : List ℕ) → NamedRequest (command_in os d id op)
named_in [] d id op = unnamed_in desk_ops d id op
named_in (o ∷ os) d id op = op_or (bytes_eq op o.0) id (on_document o.1 d) (command_in os d id op) (named_on o.1 d) (named_in os d id op)

named_command : (d : Data) (id : ℕ) (op : List ℕ) → NamedRequest (command_of d id op)
named_command d id op = named_in ops d id op

on : {A : Type 0} (x : Result A Refusal) (f : A → Result (ℕ × Request) Refusal) → ((a : A) → NamedRequest (f a)) → NamedRequest (x >>= f)
on (Ok a) f p = p a
on (Err e) f p = record { is = tt }

unless_other : (b : Bool) (x : Result (ℕ × Request) Refusal) (e : Refusal) → NamedRequest x → NamedRequest (if b then x else Err e)
unless_other true x e p = p
unless_other false x e p = record { is = tt }

named_request : (d : Data) → NamedRequest (request_of d)
named_request d = search (unless_other, on, named_command)

named_line : (line : List ℕ) → NamedRequest (request_of_line line)
named_line line = on (json_of_line line) request_of named_request

-- ---- one document more, or fewer

inserted : (m : Names) (doc : List ℕ) (h : Entry) (name : List ℕ) (b : Bool) → eq_by_cmp (slice_cmp nat_cmp) name doc ≡ b → IsNameLong doc
    → AreNamed m → IsSome (cond b (Some h) (finite.get m name)) → IsNameLong name
inserted m doc h name true e n a some = rw (finite.slice_cmp-IsAntisymmetric finite.nat_cmp-IsAntisymmetric name doc ((Equal-is _).0 e)) n
inserted m doc h name false e n a some = a name some

removed : (m : Names) (name : List ℕ) (b : Bool) → AreNamed m → IsSome (cond b None (finite.get m name)) → IsNameLong name
removed m name true a some = let never : false ≡ true = some in cc
removed m name false a some = a name some

moved_named : (m : Names) (doc : List ℕ) (move : Move) → IsNameLong doc → AreNamed m → AreNamed (moved m doc move)
moved_named m doc Stays n a = a
moved_named m doc (Puts h) n a = λ name some. inserted m doc h name _ refl n a (subst IsSome (finite.get-insert nat_list_cmp_total m doc h name) some)
moved_named m doc Goes n a = λ name some. removed m name _ a (subst IsSome (finite.get-remove nat_list_cmp_total m doc name) some)

pub none_is_named : NoneIsNamed
none_is_named = λ name some. let never : false ≡ true = subst IsSome (finite.get-empty (slice_cmp nat_cmp) name) some in cc

-- ---- lines of connections

asked_named : (o : Office) (id : ℕ) (r : Request) → IfNamed r → AreNamed o.documents → AreNamed (step_on o id r).office.documents
asked_named o id (AtDocument c) n a = moved_named o.documents c.doc (effect_of o c).move n a
asked_named o id (OfDesk overview) n a = a

step_named : (o : Office) (r : Result (ℕ × Request) Refusal) → NamedRequest r → AreNamed o.documents → AreNamed (step_by o r).office.documents
step_named o (Ok request) n a = asked_named o request.0 request.1 n.is a
step_named o (Err e) n a = a

by_step : (o u : Office) (line text : List ℕ) → IsStep o (step_of o line) text u → AreNamed o.documents → AreNamed u.documents
by_step o u line text (taken e) a = subst (λ (s : LineStep). AreNamed s.office.documents) e (step_named o (request_of_line line) (named_line line) a)
by_step o u line text (ran_out e same) a = subst (λ (x : Office). AreNamed x.documents) (sym same) a

by_limit : (o u : Office) (line text : List ℕ) (t : Bool)
    → MatchBool t ((text ≡ too_long_text) × (u ≡ o)) (IsStep o (step_of o line) text u) → AreNamed o.documents → AreNamed u.documents
by_limit o u line text true p a = subst (λ (x : Office). AreNamed x.documents) (sym p.1) a
by_limit o u line text false p a = by_step o u line text p a

replied_named : (o u : Office) (line text : List ℕ) → Replies o line text u → AreNamed o.documents → AreNamed u.documents
unfolding Replies
replied_named o u line text p a = by_limit o u line text (nat_lt line_limit (length line)) p a

served_named : (o u : Office) (ls replies : List Numbered) → ServesAll o ls replies u → AreNamed o.documents → AreNamed u.documents
served_named o u [] replies p a = subst (λ (x : Office). AreNamed x.documents) (sym p.1) a
served_named o u (l ∷ ls) replies p a = served_named p.0 u ls p.2 p.5 (replied_named o p.0 l.1 p.1 p.3 a)

pub events_keep_names : RepliesInOrder → EventsKeepNames
events_keep_names order t u w es replies s p a = served_named t.office u.office (lines_of w es) replies (order t u w es replies s p).0 a

-- ---- lines of a head

abbrev IfAdoption : Option Order → Type 0
IfAdoption None = Unit {0}
IfAdoption (Some Comment) = Unit {0}
IfAdoption (Some (Part bytes)) = Unit {0}
IfAdoption (Some (Adoption name setting rev)) = IsNameLong name

record NamedOrder (o : Option Order) : Type 0 where
  is : IfAdoption o

order_more : {A : Type 0} (f : A → Option Order) (x : Option A) → ((a : A) → NamedOrder (f a)) → NamedOrder (option_and_then f x)
order_more f None p = record { is = tt }
order_more f (Some a) p = p a

abbrev IsOf : (List ℕ → Option Order) → Type 0
IsOf f = (name : List ℕ) → IsNameLong name → NamedOrder (f name)

head_length : (text : List ℕ) (f : List ℕ → Option Order) (b : Bool)
    → (nat_lt 0 (length text) && (nat_le (length text) 64 && is_utf8 text)) ≡ b → IsOf f → NamedOrder (option_and_then f (if b then Some text else None))
head_length text f true e p =
    let parts = and_parts (nat_lt 0 (length text)) (nat_le (length text) 64 && is_utf8 text) e in
    p text (ltb-true 0 (length text) parts.0, leb-true (length text) 64 (and_parts (nat_le (length text) 64) (is_utf8 text) parts.1).0)
head_length text f false e p = record { is = tt }

head_name : (word : Option (List ℕ)) (f : List ℕ → Option Order) → IsOf f → NamedOrder (option_and_then f (option_and_then head.as_name word))
head_name None f p = record { is = tt }
head_name (Some text) f p = head_length text f _ refl p

named_as : (name : List ℕ) (d : Option (Setting × ℕ)) → IsNameLong name → NamedOrder (option_map (λ (x : Setting × ℕ). Adoption name x.0 x.1) d)
named_as name None n = record { is = tt }
named_as name (Some d) n = record { is = n }

named_adoption : (words : List ℕ) → NamedOrder (adoption words)
named_adoption words = order_more _ (after_space words) (λ rest. head_name (base64_bytes (before_space words)) _ (λ name n. named_as name (described rest) n))

named_part : (bytes : Option (List ℕ)) → NamedOrder (option_map Part bytes)
named_part None = record { is = tt }
named_part (Some bytes) = record { is = tt }

read_named : (words : Option (List ℕ)) (read : List ℕ → Option Order) (otherwise : Option Order) → ((w : List ℕ) → NamedOrder (read w))
    → NamedOrder otherwise → NamedOrder (read_or words read otherwise)
read_named None read otherwise p q = q
read_named (Some w) read otherwise p q = p w

or_other : (b : Bool) (x y : Option Order) → NamedOrder x → NamedOrder y → NamedOrder (if b then x else y)
or_other true x y p q = p
or_other false x y p q = q

no_order : NamedOrder None
no_order = record { is = tt }

named_comment : NamedOrder (Some Comment)
named_comment = record { is = tt }

named_order : (line : List ℕ) → NamedOrder (order_on line)
named_order line = search (or_other, read_named, named_part, named_adoption, named_comment, no_order)

by_order : (o : Option Order) (h k : Heading) → NamedOrder o → ObeysBy o h k → AreNamed h.office.documents → AreNamed k.office.documents
by_order None h k n p a = absurd p
by_order (Some Comment) h k n p a = subst (λ (x : Heading). AreNamed x.office.documents) (sym p) a
by_order (Some (Part bytes)) h k n p a = subst (λ (x : Heading). AreNamed x.office.documents) (sym p.1) a
by_order (Some (Adoption name setting rev)) h k n p a = rw p.0.step.2 (moved_named h.office.documents name (Puts p.0.step.0) n.is a)

pub heads_keep_names : HeadsKeepNames
heads_keep_names old new [] p a = subst (λ (x : Heading). AreNamed x.office.documents) (sym p) a
heads_keep_names old new (line ∷ lines) p a = heads_keep_names p.0 new lines p.2 (by_order (order_on line) old p.0 (named_order line) p.1.1 a)

-- ---- lines of a record

record NamedOn (t : Traffic) : Type 0 where
  begun : BegunLines
  stand : StandFor t begun
  named : AreNamed t.office.documents

module _ (order : RepliesInOrder) where
  on_events : (t u : Traffic) (line : List ℕ) → PlaysEvents line t u → NamedOn t → NamedOn u
  on_events t u line p o = record {
    begun = begun_after_all o.begun (line_events (is_skipped line) line);
    stand = (order t u o.begun (line_events (is_skipped line) line) p.0 o.stand p.1).1;
    named = events_keep_names order t u o.begun (line_events (is_skipped line) line) p.0 o.stand p.1 o.named;
  }

  on_head : (b : Bool) (parts line : List ℕ) (t u : Traffic) (is : Option (List ℕ)) → PlaysAtHead b parts line t u is → NamedOn t → NamedOn u
  on_head true parts line t u is p o = record {
    begun = o.begun;
    stand = stand_there t u o.begun p.2 o.stand;
    named = by_order (order_on line) (heading t.office parts) (heading u.office p.0) (named_order line) p.1.1 o.named;
  }
  on_head false parts line t u is p o = on_events t u line p.0 o

  on_line : (was : Option (List ℕ)) (line : List ℕ) (t u : Traffic) (is : Option (List ℕ)) → PlaysNext was line t u is → NamedOn t → NamedOn u
  on_line None line t u is p o = on_events t u line p.0 o
  on_line (Some parts) line t u is p o = on_head (may_head line) parts line t u is p o

  on_lines : (was : Option (List ℕ)) (lines : List (List ℕ)) (t u : Traffic) (is : Option (List ℕ)) → PlaysEach was lines t u is → NamedOn t → NamedOn u
  on_lines was [] t u is p o = subst NamedOn (sym p.0) o
  on_lines was (line ∷ lines) t u is p o = on_lines p.1 lines p.0 u is p.3 (on_line was line t p.0 p.1 p.2 o)

  pub plays_keep_names : PlaysKeepNames
  plays_keep_names t u w lines was is s p a = (on_lines was lines t u is p (record { begun = w; stand = s; named = a })).named
