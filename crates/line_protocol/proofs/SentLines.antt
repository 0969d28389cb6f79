-- Lines that a serializer writes, member by member.
use Rattle.std.proofs.Common.{◌≡◌, ℕ, suc, false, List, [], ◌∷◌, ◌++◌, length, refl, ap, ◌∙◌}
use Rattle.line_protocol.proofs.Prelude.{Data, items_len, items_of, SendsValue, IsLineOf, has_float, members_have_float, members_len, line_of}
use Rattle.line_protocol.proofs.Prelude.{MemberList, members_of, content_data}
use Rattle.line_protocol.specs.declared.reply_line.members.Content.{Content}
use Rattle.line_protocol.specs.declared.reply_line.members.Content.TheVariants.{Number}
use Rattle.line_protocol.specs.Values.{encoding_data, document_data}
use Rattle.line_protocol.specs.Ops.Documents.{documents_data}
use Rattle.line_protocol.specs.Ops.Hello.{hello_data}
use Rattle.desk.specs.declared.ops.{documents.DocumentsReply.DocumentsReply, hello.HelloReply.HelloReply}
use Rattle.serde_json.{specs.Data.object, specs.Written.items_have_float, proofs.FreeTexts.text_of_value}

pub as-many : (ms : MemberList) → length ms ≡ members_len (members_of ms)
as-many [] = refl
as-many (m ∷ ms) = ap suc (as-many ms)

pub as-many-items : {A : Type 0} (json : A → Data) (xs : List A) → length xs ≡ items_len (items_of json xs)
as-many-items json [] = refl
as-many-items json (x ∷ xs) = ap suc (as-many-items json xs)

-- no number of a list has a fraction
whole-items : {A : Type 0} (json : A → Data) → ((x : A) → has_float (json x) ≡ false) → (xs : List A) → items_have_float (items_of json xs) ≡ false
whole-items json is [] = refl
whole-items json is (x ∷ xs) = rw (is x) (whole-items json is xs)

is-whole : (c : Content) → has_float (content_data c) ≡ false
is-whole (Number n) = refl
is-whole c = refl

all-whole : (ms : MemberList) → members_have_float (members_of ms) ≡ false
all-whole [] = refl
all-whole (m ∷ ms) = rw (is-whole m.1) (all-whole ms)

-- the line of any object without a fraction
pub line-of-data : (d : Data) → has_float d ≡ false → (line : List ℕ) → IsLineOf (SendsValue d) line → line ≡ line_of d
line-of-data d is line sent = sent.ends ∙ ap (λ t. t ++ 10 ∷ []) (text_of_value d sent.log sent.text sent.sent sent.written is)

-- in particular of the open documents
pub documents-whole : (id : ℕ) (r : DocumentsReply) → has_float (documents_data id r) ≡ false
documents-whole id r = rw (whole-items document_data (λ d. refl) r.documents) refl

pub hello-whole : (id : ℕ) (r : HelloReply) → has_float (hello_data id r) ≡ false
hello-whole id r = rw (whole-items encoding_data (λ e. refl) r.encodings) refl

pub line-of : (ms : MemberList) (line : List ℕ) → IsLineOf (SendsValue (object (members_of ms))) line → line ≡ line_of (object (members_of ms))
line-of ms line sent =
    sent.ends ∙ ap (λ t. t ++ 10 ∷ []) (text_of_value (object (members_of ms)) sent.log sent.text sent.sent sent.written (all-whole ms))
