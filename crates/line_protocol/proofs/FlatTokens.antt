-- A line in which a flat object is printed, with gaps, is read as that object.
use Rattle.std.proofs.Common.{◌≡◌, ℕ, ◌+◌, ◌<◌, ◌≤◌, Bool, true, false, List, [], ◌∷◌, ◌++◌, map, fold, Some, IsUtf8, codes, decimal, refl, sym, ap, ◌∙◌, subst}
use Rattle.std.proofs.Common.{arith, append_assoc, append-nil, length, drop, get_or}
use Rattle.std.proofs.lemmas.{List.drop_all, List.map-append, List.Sums.fold-append, Str.is_utf8-from_IsUtf8}
use Rattle.std.specs.Prelude.{⊤}
use Rattle.enc_names.specs.Json.{json_of}
use Rattle.json.specs.{Token.Token, Lex.tokens}
use Rattle.json.specs.Json as json
use Rattle.json.proofs.Printed.{Decimals.IsNumber-decimal, Tokens.tokens-print_spaced, Tokens.print_spaced_push, Tokens.ends_push, Tokens.AreGaps-push}
use Rattle.json.{proofs.Printed.Trees.value-json_tokens, proofs.Printed.Trees.ArePrintable-json_tokens, specs.Json.value}
use Rattle.json.specs.{Print.quoted, Print.token_text, Print.ends, Print.separator, Print.ArePrintable, Spaced.IsGap, Spaced.AreGaps, Spaced.print_spaced}
use Rattle.json.specs.Tree.{json_tokens, members_tokens, members_depth, depth, HasNumbers, MembersHaveNumbers}
use Rattle.serde_json.specs.Data.{Members, no_members, object, put}
use Rattle.serde_json.{specs.Read.of_json, specs.Read.of_members, specs.Read.read, proofs.Numbers.number_of-decimal}
use Rattle.line_protocol.specs.Flat.{Member, value_data, members_data, object_data, value_json, position_json, range_json, Fits, Begins, IsKey, IsOpened}
use Rattle.line_protocol.specs.Flat.{IsWhole, IsMember}
use Rattle.line_protocol.proofs.FlatTexts.{byte_here}
use Rattle.line_protocol.specs.declared.request.flat.object.FlatObject.{FlatObject}
use Rattle.line_protocol.specs.declared.request.flat.object.FlatValue.{FlatValue, TheVariants.Whole, TheVariants.Text, TheVariants.Point, TheVariants.Range}
use Rattle.position_map.specs.declared.position.{Position.Position, Range.Range as TextRange}

abbrev member_tokens : List Member → List Token
member_tokens [] = []
member_tokens (m ∷ ms) = Token.key m.0.now ∷ (json_tokens (value_json m.1) ++ member_tokens ms)

abbrev members_json : List Member → json.Members
members_json [] = json.no_members
members_json (m ∷ ms) = json.member m.0.now (value_json m.1) (members_json ms)

abbrev pub AllFit : List Member → Type 0
AllFit [] = ⊤
AllFit (m ∷ ms) = Fits m.1 × AllFit ms

-- what is between these members and another one
abbrev pub comma : List Member → List ℕ
comma [] = []
comma (m ∷ ms) = 44 ∷ []

-- the text has an object with these members so far, and continues with `rest`
pub record Printed (text : List ℕ) (ms : List Member) (rest : List ℕ) : Type 0 where
  pub printed : List (List ℕ × Token)
  pub gaps : AreGaps printed
  pub tokens : map (λ p. p.1) printed ≡ Token.begin_object ∷ member_tokens ms
  pub is : text ≡ print_spaced false printed ++ rest
  pub fit : AllFit ms

-- ---- tokens behind one another

spaced_append : (c : Bool) (ps qs : List (List ℕ × Token)) → print_spaced c (ps ++ qs) ≡ print_spaced c ps
    ++ print_spaced (fold (λ _ u. ends u) c (map (λ q. q.1) ps)) qs
unfolding print_spaced
spaced_append c [] qs = refl
spaced_append c (p ∷ ps) qs = rw (spaced_append (ends p.1) ps qs) (simp append_assoc)

AreGaps-append : (ps qs : List (List ℕ × Token)) → AreGaps ps → AreGaps qs → AreGaps (ps ++ qs)
AreGaps-append [] qs h k = k
AreGaps-append (p ∷ ps) qs h k = (h.0, AreGaps-append ps qs h.1 k)

tokens_append : (ps qs : List (List ℕ × Token)) → map (λ q. q.1) (ps ++ qs) ≡ map (λ q. q.1) ps ++ map (λ q. q.1) qs
tokens_append ps qs = map-append (λ (q : List ℕ × Token). q.1) ps qs

-- ---- the values

ends_value : (c : Bool) (v : FlatValue) → fold (λ _ u. ends u) c (json_tokens (value_json v)) ≡ true
ends_value c (Whole n) = refl
ends_value c v = refl

of_value : (v : FlatValue) → Fits v → of_json (value_json v) ≡ Some (value_data v)
of_value (Whole n) fits = rw (number_of-decimal n fits)
of_value (Text t) fits = refl
of_value (Point p) fits = rw (number_of-decimal p.line fits.0, number_of-decimal p.character fits.1)
of_value (Range r) fits =
    rw (
      number_of-decimal r.start.line fits.0.0,
      number_of-decimal r.start.character fits.0.1,
      number_of-decimal r.end.line fits.1.0,
      number_of-decimal r.end.character fits.1.1,
    )

depth_of_value : (v : FlatValue) → depth (value_json v) ≤ 2
depth_of_value (Whole n) = omega arith
depth_of_value v = omega arith

numbers_of_value : (v : FlatValue) → Fits v → HasNumbers (value_json v)
numbers_of_value (Whole n) fits = IsNumber-decimal n fits
numbers_of_value (Text t) fits = tt
numbers_of_value (Point p) fits = (IsNumber-decimal p.line fits.0, (IsNumber-decimal p.character fits.1, tt))
numbers_of_value (Range r) fits = (
  (IsNumber-decimal r.start.line fits.0.0, (IsNumber-decimal r.start.character fits.0.1, tt)),
  ((IsNumber-decimal r.end.line fits.1.0, (IsNumber-decimal r.end.character fits.1.1, tt)), tt),
)

-- ---- the members

whole_tokens : (ms : List Member) → members_tokens (members_json ms) ≡ member_tokens ms ++ Token.end_object ∷ []
whole_tokens [] = refl
whole_tokens (m ∷ ms) =
    ap (λ ts. Token.key m.0.now ∷ (json_tokens (value_json m.1) ++ ts)) (whole_tokens ms)
    ∙ ap (λ ts. Token.key m.0.now ∷ ts) (sym (append_assoc (json_tokens (value_json m.1)) (member_tokens ms) (Token.end_object ∷ [])))

of_all : (ms : List Member) (found : Members) → AllFit ms
    → of_members (members_json ms) found ≡ Some (fold (λ found m. put m.0.now (value_data m.1) found) found ms)
of_all [] found fit = refl
of_all (m ∷ ms) found fit = rw (of_value m.1 fit.0) (of_all ms (put m.0.now (value_data m.1) found) fit.1)

flat_depth : (ms : List Member) → members_depth (members_json ms) ≤ 2
flat_depth [] = omega arith
flat_depth (m ∷ ms) = omega (arith, depth_of_value m.1, flat_depth ms)

all_numbers : (ms : List Member) → AllFit ms → MembersHaveNumbers (members_json ms)
all_numbers [] fit = tt
all_numbers (m ∷ ms) fit = (numbers_of_value m.1 fit.0, all_numbers ms fit.1)

one_more : (ms : List Member) (m : Member) → member_tokens (ms ++ m ∷ []) ≡ member_tokens ms ++ Token.key m.0.now ∷ json_tokens (value_json m.1)
one_more [] m = ap (λ ts. Token.key m.0.now ∷ ts) (append-nil (json_tokens (value_json m.1)))
one_more (x ∷ ms) m =
    ap (λ ts. Token.key x.0.now ∷ (json_tokens (value_json x.1) ++ ts)) (one_more ms m)
    ∙ ap (λ ts. Token.key x.0.now ∷ ts)
    (sym (append_assoc (json_tokens (value_json x.1)) (member_tokens ms) (Token.key m.0.now ∷ json_tokens (value_json m.1))))

fit_push : (ms : List Member) (m : Member) → AllFit ms → Fits m.1 → AllFit (ms ++ m ∷ [])
fit_push [] m h k = (k, tt)
fit_push (x ∷ ms) m h k = (h.0, fit_push ms m h.1 k)

-- ---- what is printed between them

after_value : (c : Bool) (v : FlatValue) (ts : List Token) → fold (λ _ u. ends u) c (json_tokens (value_json v) ++ ts) ≡ fold (λ _ u. ends u) true ts
after_value c v ts = fold-append (λ _ u. ends u) c (json_tokens (value_json v)) ts ∙ ap (λ b. fold (λ _ u. ends u) b ts) (ends_value c v)

stays_ended : (ms : List Member) → fold (λ _ u. ends u) true (member_tokens ms) ≡ true
stays_ended [] = refl
stays_ended (m ∷ ms) = after_value false m.1 (member_tokens ms) ∙ stays_ended ms

before_key : (ms : List Member) (k : List ℕ) → separator (fold (λ _ u. ends u) false (Token.begin_object ∷ member_tokens ms)) (Token.key k) ≡ comma ms
before_key [] k = refl
before_key (m ∷ ms) k = ap (λ b. separator b (Token.key k)) (after_value false m.1 (member_tokens ms) ∙ stays_ended ms)

before_end : (b : Bool) → separator b Token.end_object ≡ []
before_end true = refl
before_end false = refl

push_key : (text : List ℕ) (ms : List Member) (here rest : List ℕ) (m : Member) (gap : List ℕ) (p : Printed text ms (comma ms ++ here))
    → here ≡ gap ++ (quoted m.0.now ++ 58 ∷ rest) → text ≡ print_spaced false (p.printed ++ (gap, Token.key m.0.now) ∷ []) ++ rest
push_key text ms here rest m gap p is =
    rw (p.is, is, print_spaced_push false p.printed (gap, Token.key m.0.now), p.tokens, before_key ms m.0.now) (simp append_assoc)

push_value : (front ps : List (List ℕ × Token)) (gap k rest : List ℕ)
    → print_spaced false ((front ++ (gap, Token.key k) ∷ []) ++ ps) ++ rest ≡ print_spaced false (front ++ (gap, Token.key k) ∷ [])
    ++ (print_spaced false ps ++ rest)
push_value front ps gap k rest =
    let named = front ++ (gap, Token.key k) ∷ [] in
    rw (spaced_append false named ps, tokens_append front ((gap, Token.key k) ∷ []), ends_push false (map (λ q. q.1) front) (Token.key k))
    (append_assoc _ _ rest)

-- one more member
pub next_member : (text : List ℕ) (ms : List Member) (m : Member) (here rest : List ℕ) → Printed text ms (comma ms ++ here)
    → IsMember here m rest → Printed text (ms ++ m ∷ []) rest
next_member text ms m here rest p is =
    let name = is.1 in
    let value = is.2.0 in
    let key : List ℕ × Token = (name.0, Token.key m.0.now) in
    let named = p.printed ++ key ∷ [] in
    record {
      printed = named ++ value.0;
      gaps = AreGaps-append named value.0 (AreGaps-push p.printed key p.gaps name.1) value.1;
      tokens = rw (tokens_append named value.0, value.2, tokens_append p.printed (key ∷ []), p.tokens, one_more ms m) (simp append_assoc);
      is = push_key text ms here is.0 m name.0 p name.2 ∙ ap (λ l. print_spaced false named ++ l) value.3
          ∙ sym (push_value p.printed value.0 name.0 m.0.now rest);
      fit = fit_push ms m p.fit is.2.1;
    }

-- an object opens
pub opened : (text rest : List ℕ) → text ≡ 123 ∷ rest → Printed text [] (comma [] ++ rest)
unfolding print_spaced
opened text rest is = record { printed = ([], Token.begin_object) ∷ []; gaps = (tt, tt); tokens = refl; is = is; fit = tt }

-- the object is closed
pub closed : (text : List ℕ) (ms : List Member) → Printed text ms (125 ∷ []) → read text ≡ Some (object (members_data ms))
closed text ms p =
    let all = p.printed ++ ([], Token.end_object) ∷ [] in
    let j = json.object (members_json ms) in
    let is : map (λ q. q.1) all ≡ json_tokens j = rw (tokens_append p.printed (([], Token.end_object) ∷ []), p.tokens, whole_tokens ms) refl in
    let whole : text ≡ print_spaced false all = rw (p.is, print_spaced_push false p.printed ([], Token.end_object), before_end) refl in
    let printable : ArePrintable (map (λ q. q.1) all) = subst ArePrintable (sym is) (ArePrintable-json_tokens j (all_numbers ms p.fit)) in
    let seen : tokens text ≡ json_tokens j ++ [] =
    ap tokens whole ∙ tokens-print_spaced all (AreGaps-push p.printed _ p.gaps tt) printable ∙ is ∙ sym (append-nil (json_tokens j)) in
    let shallow : depth j ≤ 127 = omega (arith, flat_depth ms) in
    rw (seen, value-json_tokens j 127 [] shallow, of_all ms no_members p.fit) refl

-- ---- values of several tokens

pub one_token : (text gap rest : List ℕ) (t : Token) → IsGap gap → text ≡ gap ++ (token_text t ++ rest) → separator false t ≡ []
    → (ps : List (List ℕ × Token)) × AreGaps ps × (map (λ p. p.1) ps ≡ t ∷ []) × (text ≡ print_spaced false ps ++ rest)
unfolding print_spaced
one_token text gap rest t g is first =
    ((gap, t) ∷ [], (g, tt), refl, is ∙ sym (ap (λ s. (s ++ (gap ++ (token_text t ++ []))) ++ rest) first ∙ simp append_assoc))

pub point_here : (text t1 t2 t3 t4 t5 t6 rest : List ℕ) (p : Position) → IsOpened text t1 → IsKey t1 (codes "line") t2 → IsWhole t2 p.line t3 → t3 ≡ 44 ∷ t4 → IsKey t4 (codes "character") t5
    → IsWhole t5 p.character t6 → t6 ≡ 125 ∷ rest → Begins text (position_json p) rest
unfolding print_spaced
point_here text t1 t2 t3 t4 t5 t6 rest p o k n c l m e =
    let ps : List (List ℕ × Token) = (o.0, Token.begin_object) ∷ (k.0, Token.key (codes "line")) ∷ (n.0, Token.number (decimal p.line)) ∷ (l.0, Token.key (codes "character"))
    ∷ (m.0, Token.number (decimal p.character)) ∷ ([], Token.end_object) ∷ [] in
    let last = m.2 ∙ ap (λ x. m.0 ++ (decimal p.character ++ x)) e in
    let second = c ∙ ap (λ x. 44 ∷ x) (l.2 ∙ ap (λ x. l.0 ++ (quoted (codes "character") ++ 58 ∷ x)) last) in
    let first = k.2 ∙ ap (λ x. k.0 ++ (quoted (codes "line") ++ 58 ∷ x)) (n.2 ∙ ap (λ x. n.0 ++ (decimal p.line ++ x)) second) in
    (ps, (o.1, (k.1, (n.1, (l.1, (m.1, (tt, tt)))))), refl, o.2 ∙ ap (λ x. o.0 ++ 123 ∷ x) first ∙ sym (simp append_assoc))

behind_point : (ps qs : List (List ℕ × Token)) (p : Position) → map (λ q. q.1) ps ≡ json_tokens (position_json p)
    → print_spaced false (ps ++ qs) ≡ print_spaced false ps ++ print_spaced true qs
behind_point ps qs p is =
    let ended : fold (λ _ u. ends u) false (map (λ q. q.1) ps) ≡ true = ap (λ ts. fold (λ _ u. ends u) false ts) is ∙ ends_value false (Point p) in
    spaced_append false ps qs ∙ ap (λ b. print_spaced false ps ++ print_spaced b qs) ended

pub range_here : (text t1 t2 t3 t4 t5 t6 rest : List ℕ) (r : TextRange) → IsOpened text t1 → IsKey t1 (codes "start") t2 → Begins t2 (position_json r.start) t3 → t3 ≡ 44 ∷ t4 → IsKey t4 (codes "end") t5
    → Begins t5 (position_json r.end) t6 → t6 ≡ 125 ∷ rest → Begins text (range_json r) rest
unfolding print_spaced
range_here text t1 t2 t3 t4 t5 t6 rest r o k a c l b e =
    let closing : List (List ℕ × Token) = ([], Token.end_object) ∷ [] in
    let later : List (List ℕ × Token) = (l.0, Token.key (codes "end")) ∷ (b.0 ++ closing) in
    let ps : List (List ℕ × Token) = (o.0, Token.begin_object) ∷ (k.0, Token.key (codes "start")) ∷ (a.0 ++ later) in
    let last = l.2 ∙ ap (λ x. l.0 ++ (quoted (codes "end") ++ 58 ∷ x)) (b.3 ∙ ap (λ x. print_spaced false b.0 ++ x) e) in
    let first = k.2 ∙ ap (λ x. k.0 ++ (quoted (codes "start") ++ 58 ∷ x)) (a.3 ∙ ap (λ x. print_spaced false a.0 ++ x) (c ∙ ap (λ x. 44 ∷ x) last)) in
    let all : map (λ q. q.1) ps ≡ json_tokens (range_json r) = rw (tokens_append a.0 later, a.2, tokens_append b.0 closing, b.2) refl in
    let printed = behind_point a.0 later r.start a.2 ∙ ap (λ x. print_spaced false a.0 ++ 44 ∷ (l.0 ++ ((quoted (codes "end") ++ 58 ∷ []) ++ x))) (behind_point b.0 closing r.end b.2) in (
      ps,
      (o.1, (k.1, AreGaps-append a.0 later a.1 (l.1, AreGaps-append b.0 closing b.1 (tt, tt)))),
      all,
      o.2 ∙ ap (λ x. o.0 ++ 123 ∷ x) first ∙ sym (ap (λ x. (o.0 ++ 123 ∷ (k.0 ++ ((quoted (codes "start") ++ 58 ∷ []) ++ x))) ++ rest) printed ∙ simp append_assoc),
    )

some_comma : (ms : List Member) (m : Member) → comma (ms ++ m ∷ []) ≡ 44 ∷ []
some_comma [] m = refl
some_comma (x ∷ ms) m = refl

-- another member follows
pub going_on : (d line : List ℕ) (ms all : List Member) (m : Member) (at end : ℕ) → line ≡ d → all ≡ ms ++ m ∷ []
    → Printed d ms (comma ms ++ drop at d) → IsMember (drop at d) m (drop end d)
    → end < length line → get_or line end 0 ≡ 44 → Printed d all (comma all ++ drop (end + 1) d)
going_on d line ms all m at end same is p found within mark =
    let next = next_member d ms m (drop at d) (drop end d) p found in
    let behind : drop end d ≡ 44 ∷ drop (end + 1) d = byte_here d end 44 (rw same at within) (rw same at mark) in
    rw (is, some_comma ms m) (rw behind at next)

-- the object and the line end here
pub ending : (d line : List ℕ) (ms all : List Member) (m : Member) (at end : ℕ) → line ≡ d → all ≡ ms ++ m ∷ []
    → Printed d ms (comma ms ++ drop at d) → IsMember (drop at d) m (drop end d)
    → end + 1 ≡ length line → get_or line end 0 ≡ 125 → read d ≡ Some (object (members_data all))
ending d line ms all m at end same is p found last mark =
    let next = next_member d ms m (drop at d) (drop end d) p found in
    let behind : drop end d ≡ 125 ∷ [] =
    byte_here d end 125 (omega (arith, ap length same)) (rw same at mark) ∙ ap (λ l. 125 ∷ l) (drop_all (end + 1) d (omega (arith, ap length same))) in
    rw is (closed d (ms ++ m ∷ []) (rw behind at next))

pub beginning : (d line : List ℕ) (ms : List Member) → line ≡ d → ms ≡ [] → 0 < length line → get_or line 0 0 ≡ 123 → Printed d ms (comma ms ++ drop 1 d)
beginning d line ms same none within mark = rw none (opened d (drop 1 d) (byte_here d 0 123 (rw same at within) (rw same at mark)))

-- ---- the whole line

pub of_line : (line text : List ℕ) (b : Bool) (o : FlatObject) → text ≡ line → IsUtf8 line → (b ≡ true → read text ≡ Some (object_data o))
    → b ≡ true → json_of line ≡ Some (object_data o)
of_line line text b o same utf8 h t = rw (is_utf8-from_IsUtf8 line utf8) (ap read (sym same) ∙ h t)
