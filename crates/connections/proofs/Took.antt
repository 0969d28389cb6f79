-- One event of bytes, and the write of its reply.
use Rattle.std.proofs.Common.{◌≡◌, ℕ, ◌+◌, ◌<◌, ◌≤◌, Bool, true, false, nat_lt, List, [], ◌∷◌, ◌++◌, length, take, Option, None, Some, Ok, Err, if◌then◌else◌}
use Rattle.std.proofs.Common.{refl, sym, ap, ◌∙◌, subst, append-nil, arith}
use Rattle.connections.proofs.Prelude.{take_all, is_some, get_or-set_other, get_or-set_same, ltb-true, lt-ltb, Appends-nil, IsOpen, Delivered, DeliveredUntil}
use Rattle.connections.proofs.Prelude.{Begun, WritesReply, connections, at_number, unless_open, unless_bad_number, line_at, Took, has_end, before_end, complete}
use Rattle.connections.proofs.Prelude.{SameOthers, Traffic, Partial, Stands, GateFault, Office, Received}
use Rattle.connections.proofs.Cuts.{complete_without, unfinished_without, before_without, cut_at_end, complete_at_end, unfinished_at_end, taken_at_end}
use Rattle.connections.specs.{declared.gateway.GateFault.TheVariants.BadNumber, Traffic.GoesOn, Traffic.Takes, Traffic.taken_of}
use Rattle.line_protocol.specs.Step.{line_limit, Replies}
use Rattle.devices.specs.Devices.{Writes}

-- ---- the reply to a line that was taken

module _ (bytes : List ℕ) (o n : Office) (begun next : Partial) (taken : ℕ) (count : taken ≡ taken_of bytes) where
  pub takes_line : (known : Partial) (text : List ℕ) → has_end bytes ≡ true → next ≡ Received [] → GoesOn line_limit begun (before_end bytes) known
      → ((line : List ℕ) → Stands known line → Replies o line text n) → Takes bytes o begun taken (Some text) n next
  takes_line known text e fresh goes answers = record {
    count = count;
    step = rw e (record { text = text; is = refl; fresh = fresh; answers = λ line s. answers (line ++ before_end bytes) (goes line s) });
  }

  pub takes_none : has_end bytes ≡ false → n ≡ o → GoesOn line_limit begun bytes next → Takes bytes o begun taken None n next
  takes_none e same goes = record { count = count; step = rw e (record { silent = refl; same = same; goes_on = goes }) }

-- ---- connections

pub good_number : (c : ℕ) (fault : Option GateFault) → unless_bad_number c fault ≡ None → c < connections
good_number c fault h =
    ltb-true c connections
    (elim (nat_lt c connections) as (λ t. (if t then fault else Some BadNumber) ≡ None → t ≡ true) [ true ↦ λ _. refl | false ↦ λ no. cc ] h)

pub open_number : (t : Traffic) (c : ℕ) → IsOpen t c → c < connections
open_number t c h = good_number c (unless_open (line_at t c)) h

end_within : (xs : List ℕ) → has_end xs ≡ true → length (before_end xs) < length xs
end_within [] h = cc
end_within (x ∷ xs) h = grind (arith, end_within xs)

-- ---- an event of bytes

module _ (t u : Traffic) (c taken : ℕ) (bytes : List ℕ) where
  module _ (reply : Option (List ℕ)) (took : Took t c bytes taken reply u) where
    pub took_some : 0 < length bytes → 0 < taken
    took_some some = let n = took.takes.count in grind arith

    pub took_within : taken ≤ length bytes
    took_within = let n = took.takes.count in grind (arith, end_within bytes)

    -- a reply comes where the bytes have a line feed
    replied_by : (end : Bool) → has_end bytes ≡ end → end ≡ is_some reply
    replied_by true e = let step = rw e at took.takes.step in sym (ap is_some step.is)
    replied_by false e = let step = rw e at took.takes.step in sym (ap is_some step.silent)

    stood : (line : List ℕ) → Begun t c line → Stands took.begun line
    stood line b = let same : b.known ≡ took.begun = let e = sym b.is ∙ took.was in cc in subst (λ h. Stands h line) same b.stands

    module _ (is_open : IsOpen t c) (count : length t.lines ≡ connections) where
      line_after : line_at u c ≡ Some took.next
      line_after =
          let small : c < connections = open_number t c is_open in
          ap (λ l. at_number l c) took.lines ∙ get_or-set_same t.lines c (Some took.next) None (omega arith)

      pub open_after : IsOpen u c
      open_after = rw (lt-ltb c connections (open_number t c is_open), line_after) refl

      others_after : SameOthers t u c
      others_after d ne = ap (λ l. at_number l d) took.lines ∙ get_or-set_other t.lines c d (Some took.next) None ne

  -- a reply came
  module _ (text : List ℕ) (took : Took t c bytes taken (Some text) u) where
    ended : has_end bytes ≡ true
    ended = replied_by (Some text) took (has_end bytes) refl

    answers : (line : List ℕ) → Begun t c line → Replies t.office (line ++ before_end bytes) text u.office
    answers line b =
        let step = rw ended at took.takes.step in
        let same : step.text ≡ text = let e = step.is in cc in
        subst (λ x. Replies t.office (line ++ before_end bytes) x u.office) same (step.answers line (stood (Some text) took line b))

    front : take taken bytes ≡ before_end bytes ++ 10 ∷ []
    front =
        ap (λ n. take n bytes) (rw ended at took.takes.count)
        ∙ taken_at_end bytes (before_end bytes) (cut_at_end bytes ended).0 (cut_at_end bytes ended).1

  -- ---- by the write of the reply

  pub delivered_written : (A E : Type 0) (a : A) (reply : Option (List ℕ)) (x y : Writes)
      → Took t c bytes taken reply u → IsOpen t c → length t.lines ≡ connections
      → WritesReply {A = A} {E = E} (Ok a) reply x.written y.written → y.failures ≡ x.failures → Delivered c (take taken bytes) t u x y
  delivered_written A E a None x y took is_open count same fine =
      let e : has_end bytes ≡ false = replied_by None took (has_end bytes) refl in
      let step = rw e at took.takes.step in
      let gone : taken ≡ length bytes = rw e at took.takes.count in
      rw (take_all taken bytes (omega (arith, gone))) (record {
        out = [];
        appends = rw same (Appends-nil x.written);
        fine = fine;
        serves = λ line b. rw (complete_without line bytes e) (refl, step.same);
        is_open = open_after None took is_open count;
        begun = λ line b. record {
          known = took.next;
          is = line_after None took is_open count;
          stands = rw (unfinished_without line bytes e) (step.goes_on line (stood None took line b));
        };
        others = others_after None took is_open count;
      })
  delivered_written A E a (Some text) x y took is_open count gone fine = rw (front text took) (record {
    out = text;
    appends = gone;
    fine = fine;
    serves = λ line b. rw (complete_at_end line (before_end bytes) [] (before_without bytes))
        (u.office, text, [], answers text took line b, sym (append-nil text), (refl, refl));
    is_open = open_after (Some text) took is_open count;
    begun = λ line b. record {
      known = took.next;
      is = line_after (Some text) took is_open count;
      stands = let step = rw (ended text took) at took.takes.step in rw (unfinished_at_end line (before_end bytes), step.fresh) refl;
    };
    others = others_after (Some text) took is_open count;
  })

  pub delivered_unwritten : (A E : Type 0) (e : E) (reply : Option (List ℕ)) (x y : Writes)
      → Took t c bytes taken reply u → IsOpen t c → length t.lines ≡ connections
      → WritesReply {A = A} {E = E} (Err e) reply x.written y.written → y.failures ≡ x.failures + 1 → DeliveredUntil c bytes t u x y
  delivered_unwritten A E e None x y took is_open count never failed = absurd never
  delivered_unwritten A E e (Some text) x y took is_open count gone failed =
      let cut = cut_at_end bytes (ended text took) in record {
        out = gone.0;
        appends = gone.4;
        failed = failed;
        breaks = λ line b. record {
          first = [];
          last = line ++ before_end bytes;
          more = complete [] cut.0;
          cut = ap (complete line) cut.1 ∙ complete_at_end line (before_end bytes) cut.0 (before_without bytes);
          sent = [];
          part = gone.0;
          unsent = gone.1;
          mid = t.office;
          serves = (refl, refl);
          fails = rw (← gone.2) (answers text took line b);
          short = gone.3;
          front = refl;
        };
        is_open = open_after (Some text) took is_open count;
        others = others_after (Some text) took is_open count;
      }
