-- The laws of line reading and of the written lines.
use Rattle.std.specs.Prelude.{◌≡◌, ◌≢◌, ◌<◌, ◌≤◌, ◌+◌, ◌*◌, ℕ, true, false, List, [], ◌∷◌, ◌++◌, codes, map, length, Option, Some, None, encode_utf8_all}
use Rattle.std.specs.List.{AllByRecursion}
use Rattle.rdf_terms.specs.declared.kind.Kind.{Kind}
use Rattle.rdf_terms.specs.declared.kind.Kind.TheVariants.{IriRef, Dot, End}
use Rattle.rdf_terms.specs.declared.reason.Reason.{Reason}
use Rattle.rdf_terms.specs.Terms.{Node, IsNode, Tail, Lang, Typed, Subject, Iri, Blank, Term, Resource, Literal, Quad}
use Rattle.rdf_tokens.specs.Tokens.{Place, Token}
use Rattle.rdf_tokens.specs.Grammars.{Marked, unmarked, Viable, Due, Rises, CompletedWith, reading_of, IsDocumentOf, IsWithin, GoesOn, IsWhole, Refused, IsReadToItsEnd}
use Rattle.rdf_driver.specs.Readers.{Driven, HasRead}
use Rattle.rdf_iri.specs.Texts.{byte_len}
use Rattle.rdf_lines.specs.declared.form.LineForm.{LineForm}
use Rattle.rdf_lines.specs.declared.form.LineForm.TheVariants.{NQuads}
use Rattle.rdf_lines.specs.declared.rules.Rules.{Rules}
use Rattle.rdf_lines.specs.Lines.{Document, document_quads, documents, trees}
use Rattle.rdf_lines.specs.Documents.{in_lines}
use Rattle.rdf_lines.specs.Accepting.{LineAt, line_words}
use Rattle.rdf_lines.specs.declared.form.Escapes.{Escapes}
use Rattle.rdf_lines.specs.declared.form.Escapes.TheVariants.{Plain, Ascii}
use Rattle.rdf_lines.specs.declared.form.Style.{Style}
use Rattle.rdf_lines.specs.declared.form.Style.TheVariants.{Kept}
use Rattle.rdf_lines.specs.NodePrefixes.{IsNodePrefix, Form, unprefixed, named, text_in}
use Rattle.rdf_lines.specs.Writing.{CanWriteNode, rename, iri_text, subject_text, string_text, text, Writable, HasAsciiLabels}
use Rattle.rdf_lines.specs.NodeNames.{name_node}

-- The written bytes are a document of N-Quads whose quads are these, their nodes named by the form, whatever the limit on IRIs.
abbrev pub ReadsBack : Form → List Quad → ℕ → Type 0
ReadsBack f qs limit = (iri : ℕ) → IsDocumentOf (in_lines NQuads limit iri) (encode_utf8_all (text_in f qs)) (map (named f) qs)

-- What is written in a form reads back.
abbrev pub WrittenTextReadsBack : Type 0
WrittenTextReadsBack = (f : Form) (qs : List Quad) (limit : ℕ) →
    IsNodePrefix f.prefix → Writable f.style qs → length (text_in f qs) ≤ limit → ReadsBack f qs limit

-- Every tree of the same tokens has the same quads, with the same marks.
abbrev pub TokensSettleTheQuads : Type 0
TokensSettleTheQuads = (form : LineForm) (ts : List Token) (qs rs : List Marked) → trees form ts qs → trees form ts rs → qs ≡ rs

-- What is due after some tokens is the same in every document that begins with them.
abbrev pub TokensSettleWhatIsDue : Type 0
TokensSettleWhatIsDue = (form : LineForm) (ts : List Token) (qs rs : List Quad) → Due (documents form) ts qs → Due (documents form) ts rs → qs ≡ rs

-- What is due is a beginning of the quads of each document that begins so.
abbrev pub DueBeginsTheQuads : Type 0
DueBeginsTheQuads = (form : LineForm) (ts more : List Token) (qs : List Quad) (all : List Marked) →
    Due (documents form) ts qs → documents form (ts ++ more) all → (rest : List Quad) × (unmarked all ≡ qs ++ rest)

-- The quads of a tree come in the order in which they are due.
abbrev pub MarksNeverFall : Type 0
MarksNeverFall = (d : Document) → Rises 0 (document_quads 0 d)

-- the tokens of which completions are made
abbrev pub closing_text : Kind → Option (List ℕ)
closing_text IriRef = Some (codes "<a:>")
closing_text Dot = Some (codes ".")
closing_text End = Some []
closing_text k = None

-- the token is one of these, as it is written there
abbrev pub IsClosing : Token → Type 0
IsClosing t = closing_text t.kind ≡ Some t.text

-- Tokens that begin a document are completed to one by such tokens, and tokens that begin a tree, to a tree: a reader is never in a dead end.
abbrev pub BeginningsAreCompleted : Type 0
BeginningsAreCompleted = (form : LineForm) (ts : List Token) →
    (Viable (documents form) ts → CompletedWith IsClosing (documents form) ts) × (Viable (trees form) ts → CompletedWith IsClosing (trees form) ts)

-- What a reader has read decides tokens that are all in the front, leaves the next one open, and the quads that were put are due after them.
abbrev pub ReadQuadsAreDue : Type 0
ReadQuadsAreDue = (r : Driven LineAt) (x : Rules) (bytes : List ℕ) (quads : List Quad) → HasRead line_words r x bytes quads →
    GoesOn (in_lines x.form r.scanner.limit x.iri) bytes × Due (documents x.form) (reading_of (in_lines x.form r.scanner.limit x.iri) bytes false).tokens quads

-- A document within the limits is read to its end, however it is cut.
abbrev pub DocumentsAreRead : Type 0
DocumentsAreRead = (form : LineForm) (limit iri : ℕ) (bytes : List ℕ) (quads : List Quad) → IsDocumentOf (in_lines form limit iri) bytes quads →
    IsWithin (in_lines form limit iri) bytes → IsReadToItsEnd (in_lines form limit iri) bytes

-- What is refused is no document within the limits.
abbrev pub RefusedIsNoDocument : Type 0
RefusedIsNoDocument = (form : LineForm) (limit iri : ℕ) (bytes : List ℕ) (quads : List Quad) (reason : Reason) (at : Place) →
    Refused (in_lines form limit iri) bytes true reason at → IsDocumentOf (in_lines form limit iri) bytes quads → IsWithin (in_lines form limit iri) bytes → ⊥

-- the subject is no IRI of more bytes
abbrev pub SubjectWithin : ℕ → Subject → Type 0
SubjectWithin n (Iri i) = byte_len i ≤ n
SubjectWithin n (Blank b) = Unit

-- the same of a literal's datatype
abbrev pub TailWithin : ℕ → Tail → Type 0
TailWithin n (Lang t) = Unit
TailWithin n (Typed i) = byte_len i ≤ n

-- the same of an object
abbrev pub TermWithin : ℕ → Term → Type 0
TermWithin n (Resource s) = SubjectWithin n s
TermWithin n (Literal w t) = TailWithin n t

-- the same of a graph label
abbrev pub GraphWithin : ℕ → Option Subject → Type 0
GraphWithin n None = Unit
GraphWithin n (Some g) = SubjectWithin n g

-- no IRI of the quad has more bytes
pub record IrisWithin (n : ℕ) (q : Quad) : Type 0 where
  pub subject : SubjectWithin n q.subject
  pub predicate : byte_len q.predicate ≤ n
  pub object : TermWithin n q.object
  pub graph : GraphWithin n q.graph

-- a datatype or a language tag is written with no more characters
abbrev pub TailShort : Escapes → ℕ → Tail → Type 0
TailShort e n (Lang t) = length (64 ∷ t) ≤ n
TailShort e n (Typed i) = length (iri_text e i) ≤ n

-- no token of an object is written with more
abbrev pub TermShort : Escapes → ℕ → Term → Type 0
TermShort e n (Resource s) = length (subject_text e s) ≤ n
TermShort e n (Literal w t) = (length (string_text e w) ≤ n) × TailShort e n t

-- nor that of a graph label
abbrev pub GraphShort : Escapes → ℕ → Option Subject → Type 0
GraphShort e n None = Unit
GraphShort e n (Some g) = length (subject_text e g) ≤ n

-- no token of the quad, as it is written, has more characters
pub record TokensWithin (e : Escapes) (n : ℕ) (q : Quad) : Type 0 where
  pub subject : length (subject_text e q.subject) ≤ n
  pub predicate : length (iri_text e q.predicate) ≤ n
  pub object : TermShort e n q.object
  pub graph : GraphShort e n q.graph

-- What is written for quads is read to its end as N-Quads, where no token of the lines without the word and no IRI of the quads passes a limit:
-- the word takes its length of a limit on tokens, and nothing else. `^^` has two characters.
abbrev pub WrittenTextIsRead : Type 0
WrittenTextIsRead = (f : Form) (qs : List Quad) (limit iri : ℕ) → IsNodePrefix f.prefix → Writable f.style qs → 2 ≤ limit →
    AllByRecursion (TokensWithin f.escapes limit) (map (rename f.style) qs) → AllByRecursion (IrisWithin iri) qs →
    IsReadToItsEnd (in_lines NQuads (length f.prefix + limit) iri) (encode_utf8_all (text_in f qs))

-- The quads of a document are well formed, and each of their nodes has a label.
abbrev pub DocumentIsWritable : Type 0
DocumentIsWritable = (form : LineForm) (token iri : ℕ) (bytes : List ℕ) (qs : List Quad) → IsDocumentOf (in_lines form token iri) bytes qs → Writable Kept qs

-- how many characters a character of a string has at most, as it is written: `\n`, or `\U` and eight digits
abbrev pub string_width : Escapes → ℕ
string_width Plain = 2
string_width Ascii = 10

-- how many characters an IRI has at most, as it is written, for each of its bytes: `\u` and four digits for two bytes
abbrev pub iri_width : Escapes → ℕ
iri_width Plain = 1
iri_width Ascii = 3

-- What is written, with the labels kept, for a document within some limits is read to its end with limits that are higher by what the escapes take,
-- and that on tokens by the word's length.
abbrev pub WrittenDocumentIsRead : Type 0
WrittenDocumentIsRead = (e : Escapes) (p : List ℕ) (form : LineForm) (token iri : ℕ) (bytes : List ℕ) (qs : List Quad) → IsNodePrefix p →
    IsDocumentOf (in_lines form token iri) bytes qs → IsWhole (in_lines form token iri) bytes →
    (token_then iri_then : ℕ) → string_width e * token ≤ token_then → iri_width e * iri + 2 ≤ token_then → 64 ≤ token_then → iri ≤ iri_then → 64 ≤ iri_then →
    IsReadToItsEnd (in_lines NQuads (length p + token_then) iri_then) (encode_utf8_all (text_in (record { style = Kept; escapes = e; prefix = p }) qs))

-- In ASCII each byte that is written is below 128, where each label has such characters alone.
abbrev pub AsciiIsWritten : Type 0
AsciiIsWritten = (s : Style) (p : List ℕ) (qs : List Quad) → IsNodePrefix p → Writable s qs → AllByRecursion HasAsciiLabels qs →
    AllByRecursion (λ b. b < 128) (encode_utf8_all (text_in (record { style = s; escapes = Ascii; prefix = p }) qs))

-- The two forms agree where what the plain one writes has bytes below 128 alone.
abbrev pub FormsAgreeOnAscii : Type 0
FormsAgreeOnAscii = (s : Style) (p : List ℕ) (qs : List Quad) →
    AllByRecursion (λ b. b < 128) (encode_utf8_all (text_in (record { style = s; escapes = Plain; prefix = p }) qs)) →
    text_in (record { style = s; escapes = Ascii; prefix = p }) qs ≡ text_in (record { style = s; escapes = Plain; prefix = p }) qs

-- In one form no two nodes have one name.
abbrev pub NamesStayApart : Type 0
NamesStayApart = (f : Form) (m n : Node) → IsNode m → IsNode n → name_node f m ≡ name_node f n → m ≡ n

-- With two different words of one length no two nodes have one name, whatever the styles.
abbrev pub PrefixesKeepApart : Type 0
PrefixesKeepApart = (f g : Form) (m n : Node) → length f.prefix ≡ length g.prefix → f.prefix ≢ g.prefix → CanWriteNode f.style m → CanWriteNode g.style n →
    name_node f m ≢ name_node g n

-- The empty word changes no line, and no name.
abbrev pub NoPrefixIsNoChange : Type 0
NoPrefixIsNoChange = (s : Style) (e : Escapes) (qs : List Quad) →
    (text_in (unprefixed s e) qs ≡ text s e qs) × (map (named (unprefixed s e)) qs ≡ map (rename s) qs)

-- What is written in two forms, one after the other, is a document that has the quads of both; with two words no node of the one is a node of the other.
abbrev pub JoinedTextsReadBack : Type 0
JoinedTextsReadBack = (f g : Form) (qs rs : List Quad) (limit iri : ℕ) → f.escapes ≡ g.escapes → IsNodePrefix f.prefix → IsNodePrefix g.prefix →
    Writable f.style qs → Writable g.style rs → length (text_in f qs ++ text_in g rs) ≤ limit →
    IsDocumentOf (in_lines NQuads limit iri) (encode_utf8_all (text_in f qs) ++ encode_utf8_all (text_in g rs)) (map (named f) qs ++ map (named g) rs)
