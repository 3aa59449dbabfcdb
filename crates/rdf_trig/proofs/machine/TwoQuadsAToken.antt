-- There are at most two quads for each token.
use Rattle.rdf_trig.proofs.Prelude.{◌≡◌, ℕ, ◌+◌, ◌*◌, ◌≤◌, Bool, true, false, cond, List, [], ◌∷◌, length, Option, Some, None, refl, ap, ◌∙◌, arith, length-append, Kind, IriRef, LabelNode, ShortString, LongString, LangTag, Carets, Dot, Integer, Decimal, Double, True, False, A, AtPrefix, AtBase, Prefix, Base, Graph, PnameNs, PnameLn, Semicolon, Comma, OpenBracket, CloseBracket, OpenParen, CloseParen, OpenBrace, CloseBrace, End, Anon, Cell, Blank, Quad, Token, is_end, counted, InForce, Leaf, leaf_of, DocForm, TriG, Setting, in_default, node, cell_at, rest_quad, Topic, sized, Top, InBlock, Listed, InCollection, Around, Statement, InPropertyList, Up, Start, Over, WantPrefix, WantPrefixIri, WantBaseIri, WantDot, AfterLabel, GraphWord, GraphBracket, WantBrace, Inside, Want, After, AfterText, WantType, PropertyListStart, CollectionStart, WantVerb, AfterSemicolon, AfterPropertyList, Reply, No, Go, object_start, want_type, verb_start, predicate_list_end, after_semicolon, after_text, property_list_start, collection_start, after_property_list, subject_start, start, want_brace, after_label, graph_bracket, want_prefix, want_prefix_iri, want_base_iri, want_dot, waiting, kept, Answer, refuses, accepts, accept, at_start, ran, refused, accept_all}
use Rattle.rdf_terms.specs.Terms as term
use Rattle.rdf_trig.specs.Machine.{Level, Place, Spelling, Mode, after, inside, graph_word, step}
use Rattle.rdf_trig.specs.Machine.{State, go}
use Rattle.rdf_trig.proofs.machine.AcceptedTokens.{accepted, first_ran}

-- a quad may be waiting there
abbrev owes : Mode → ℕ
owes (AfterText w p) = 1
owes (CollectionStart u) = 1
owes m = 0

-- how many quads there are, none or one
abbrev size : Option Quad → ℕ
size None = 0
size (Some q) = 1

-- at most one
size_le : (q : Option Quad) → size q ≤ 1
size_le None = omega arith
size_le (Some q) = omega arith

-- a mode owes one quad at most, that of a string or parenthesis whose next token decides it
owes_le : (m : Mode) → owes m ≤ 1
owes_le (AfterText w p) = omega arith
owes_le (CollectionStart u) = omega arith
owes_le m = omega arith

-- a list of quads with one before it
kept_length : (q : Option Quad) (qs : List Quad) → length (kept q qs) ≡ size q + length qs
kept_length None qs = omega arith
kept_length (Some q) qs = omega arith

-- what a token gives, and the one that may wait after it
record IsFew (last : Bool) (m : Mode) (early now : Option Quad) : Type 0 where
  most : owes m + size early + size now ≤ cond last 0 2

-- of a reply to a token of the kind
abbrev Few : Kind → Reply → Type 0
Few k No = Unit {0}
Few k (Go u early now c m) = IsFew (is_end k) m early now

-- to give no quad is few enough
quiet : (m : Mode) → IsFew false m None None
quiet m = record { most = let h = owes_le m in omega (arith, h) }

-- two quads are few enough where the mode after them owes none, as within a collection
both : (m : Mode) (early now : Option Quad) → owes m ≡ 0 → IsFew false m early now
both m early now e = record { most = let a = size_le early in let b = size_le now in omega (arith, a, b, e) }

-- one quad that was waiting is few enough
first : (m : Mode) (early : Option Quad) → IsFew false m early None
first m early = record { most = let a = size_le early in let b = owes_le m in omega (arith, a, b) }

-- one quad whose head ends with the token is few enough
one : (m : Mode) (now : Option Quad) → IsFew false m None now
one m now = record { most = let a = owes_le m in let b = size_le now in omega (arith, a, b) }

object_few : (c : Setting) (p : Place) (early : Option Quad) (k : Kind) (l : Leaf) → Few k (object_start c p early k l)
object_few c p early IriRef l = both _ early _ refl
object_few c p early PnameLn l = both _ early _ refl
object_few c p early PnameNs l = both _ early _ refl
object_few c p early LabelNode l = both _ early _ refl
object_few c p early ShortString l = first _ early
object_few c p early LongString l = first _ early
object_few c p early Integer l = both _ early _ refl
object_few c p early Decimal l = both _ early _ refl
object_few c p early Double l = both _ early _ refl
object_few c p early True l = both _ early _ refl
object_few c p early False l = both _ early _ refl
object_few c p early OpenBracket l = both _ early _ refl
object_few c p early OpenParen l = first _ early
object_few c p early k l = tt

verb_few : (c : Setting) (s : Topic) (a : Around) (k : Kind) (l : Leaf) → Few k (verb_start c s a k l)
verb_few c s a IriRef l = quiet _
verb_few c s a PnameLn l = quiet _
verb_few c s a PnameNs l = quiet _
verb_few c s a A l = quiet _
verb_few c s a k l = tt

end_few : (c : Setting) (s : Topic) (a : Around) (k : Kind) (l : Leaf) → Few k (predicate_list_end c s a k l)
end_few c s (Statement Top) Dot l = quiet _
end_few c s (Statement InBlock) Dot l = quiet _
end_few c s (Statement InBlock) CloseBrace l = quiet _
end_few c s (InPropertyList u) CloseBracket l = quiet _
end_few c s (Statement Top) k l = tt
end_few c s (Statement InBlock) k l = tt
end_few c s (InPropertyList u) k l = tt

semicolon_few : (c : Setting) (s : Topic) (a : Around) (k : Kind) (l : Leaf) → Few k (after_semicolon c s a k l)
semicolon_few c s a Semicolon l = quiet _
semicolon_few c s a IriRef l = verb_few c s a IriRef l
semicolon_few c s a PnameLn l = verb_few c s a PnameLn l
semicolon_few c s a PnameNs l = verb_few c s a PnameNs l
semicolon_few c s a A l = verb_few c s a A l
semicolon_few c s a k l = end_few c s a k l

after_few : (c : Setting) (p : Place) (k : Kind) (l : Leaf) → Few k (after c p k l)
after_few c (Listed s p a) Comma l = quiet _
after_few c (Listed s p a) Semicolon l = quiet _
after_few c (Listed s p a) k l = end_few c s a k l
after_few c (InCollection f n u) CloseParen l = one _ _
after_few c (InCollection f n u) k l = object_few c (InCollection f l.at.offset u) (rest_quad c (Cell n) (Blank (cell_at l))) k l

text_few : (c : Setting) (w : List ℕ) (p : Place) (k : Kind) (l : Leaf) → Few k (after_text c w p k l)
text_few c w p LangTag l = one _ _
text_few c w p AtBase l = one _ _
text_few c w p AtPrefix l = one _ _
text_few c w p Carets l = quiet _
text_few c w p k l = after_few c p k l

type_few : (c : Setting) (w : List ℕ) (p : Place) (k : Kind) (l : Leaf) → Few k (want_type c w p k l)
type_few c w p IriRef l = one _ _
type_few c w p PnameLn l = one _ _
type_few c w p PnameNs l = one _ _
type_few c w p k l = tt

brackets_few : (form : DocForm) (c : Setting) (n : ℕ) (u : Up) (k : Kind) (l : Leaf) → Few k (property_list_start form c n u k l)
brackets_few form c n u CloseBracket l = quiet _
brackets_few form c n u k l = verb_few c (sized (node (Anon n))) (InPropertyList u) k l

collection_start_few : (c : Setting) (u : Up) (k : Kind) (l : Leaf) → Few k (collection_start c u k l)
collection_start_few c u CloseParen l = quiet _
collection_start_few c u k l = object_few c (InCollection l.at.offset l.at.offset u) None k l

after_brackets_few : (c : Setting) (s : Topic) (v : Level) (k : Kind) (l : Leaf) → Few k (after_property_list c s v k l)
after_brackets_few c s v IriRef l = verb_few c s (Statement v) IriRef l
after_brackets_few c s v PnameLn l = verb_few c s (Statement v) PnameLn l
after_brackets_few c s v PnameNs l = verb_few c s (Statement v) PnameNs l
after_brackets_few c s v A l = verb_few c s (Statement v) A l
after_brackets_few c s v k l = end_few c s (Statement v) k l

subject_few : (form : DocForm) (c : Setting) (v : Level) (k : Kind) (l : Leaf) → Few k (subject_start form c v k l)
subject_few form c v IriRef l = quiet _
subject_few form c v PnameLn l = quiet _
subject_few form c v PnameNs l = quiet _
subject_few form c v LabelNode l = quiet _
subject_few form c v OpenBracket l = quiet _
subject_few form c v OpenParen l = quiet _
subject_few form c v k l = tt

start_few : (form : DocForm) (c : Setting) (k : Kind) (l : Leaf) → Few k (start form c k l)
start_few form c End l = record { most = omega arith }
start_few form c AtPrefix l = quiet _
start_few form c Prefix l = quiet _
start_few form c AtBase l = quiet _
start_few form c Base l = quiet _
start_few TriG c Graph l = quiet _
start_few TriG c OpenBrace l = quiet _
start_few form c k l = subject_few form (in_default c.scope) Top k l

inside_few : (form : DocForm) (c : Setting) (k : Kind) (l : Leaf) → Few k (inside form c k l)
inside_few form c CloseBrace l = quiet _
inside_few form c k l = subject_few form c InBlock k l

brace_few : (c : Setting) (g : Option term.Subject) (k : Kind) (l : Leaf) → Few k (want_brace c g k l)
brace_few c g OpenBrace l = quiet _
brace_few c g k l = tt

label_few : (c : Setting) (g : Topic) (k : Kind) (l : Leaf) → Few k (after_label c g k l)
label_few c g OpenBrace l = quiet _
label_few c g k l = verb_few c g (Statement Top) k l

graph_few : (c : Setting) (k : Kind) (l : Leaf) → Few k (graph_word c k l)
graph_few c IriRef l = quiet _
graph_few c PnameLn l = quiet _
graph_few c PnameNs l = quiet _
graph_few c LabelNode l = quiet _
graph_few c OpenBracket l = quiet _
graph_few c k l = tt

graph_brackets_few : (c : Setting) (n : ℕ) (k : Kind) (l : Leaf) → Few k (graph_bracket c n k l)
graph_brackets_few c n CloseBracket l = quiet _
graph_brackets_few c n k l = tt

prefix_few : (c : Setting) (w : Spelling) (k : Kind) (l : Leaf) → Few k (want_prefix c w k l)
prefix_few c w PnameNs l = quiet _
prefix_few c w k l = tt

prefix_iri_few : (c : Setting) (w : Spelling) (p : List ℕ) (k : Kind) (l : Leaf) → Few k (want_prefix_iri c w p k l)
prefix_iri_few c w p IriRef l = quiet _
prefix_iri_few c w p k l = tt

base_iri_few : (c : Setting) (w : Spelling) (k : Kind) (l : Leaf) → Few k (want_base_iri c w k l)
base_iri_few c w IriRef l = quiet _
base_iri_few c w k l = tt

dot_few : (c : Setting) (k : Kind) (l : Leaf) → Few k (want_dot c k l)
dot_few c Dot l = quiet _
dot_few c k l = tt

-- so no step of the machine gives more than two quads, counted with the one that it owes
step_few : (form : DocForm) (c : Setting) (m : Mode) (k : Kind) (l : Leaf) → Few k (step form c m k l)
step_few form c Start k l = start_few form c k l
step_few form c Over k l = tt
step_few form c (WantPrefix w) k l = prefix_few c w k l
step_few form c (WantPrefixIri w p) k l = prefix_iri_few c w p k l
step_few form c (WantBaseIri w) k l = base_iri_few c w k l
step_few form c WantDot k l = dot_few c k l
step_few form c (AfterLabel g) k l = label_few c g k l
step_few form c GraphWord k l = graph_few c k l
step_few form c (GraphBracket n) k l = graph_brackets_few c n k l
step_few form c (WantBrace g) k l = brace_few c g k l
step_few form c Inside k l = inside_few form c k l
step_few form c (Want p) k l = object_few c p None k l
step_few form c (After p) k l = after_few c p k l
step_few form c (AfterText w p) k l = text_few c w p k l
step_few form c (WantType w p) k l = type_few c w p k l
step_few form c (PropertyListStart n u) k l = brackets_few form c n u k l
step_few form c (CollectionStart u) k l = collection_start_few c u k l
step_few form c (WantVerb s a) k l = verb_few c s a k l
step_few form c (AfterSemicolon s a) k l = semicolon_few c s a k l
step_few form c (AfterPropertyList s v) k l = after_brackets_few c s v k l

-- a quad that waits was owed
waiting_few : (c : Setting) (m : Mode) (k : Kind) (l : Leaf) → size (waiting c m k l) ≤ owes m
waiting_few c (AfterText w p) k l = size_le (waiting c (AfterText w p) k l)
waiting_few c (CollectionStart u) k l = size_le (waiting c (CollectionStart u) k l)
waiting_few c m k l = omega arith

-- what one token gives out, and what is ready after it
accept_few : (form : DocForm) (s n : State) (t : Token) (qs : List Quad) → accept form s t.kind (leaf_of t) ≡ accepts qs n →
    length qs + length n.ready + owes n.mode ≤ length s.ready + owes s.mode + 2 * cond (is_end t.kind) 0 1
accept_few form s n t qs e =
    let w = waiting s.setting s.mode t.kind (leaf_of t) in
    let a = accepted s.setting.scope.limits s t.kind w (step form s.setting s.mode t.kind (leaf_of t)) qs n e in
    let few = step_few form s.setting s.mode t.kind (leaf_of t) in
    let few : IsFew (is_end t.kind) a.mode a.early a.now = rw a.reply at few in
    let few = few.most in
    let twice = by (is_end t.kind) in
    let wait = waiting_few s.setting s.mode t.kind (leaf_of t) in
    let given : length qs ≡ length s.ready + size w =
    ap length a.given ∙ (length-append s.ready (kept w []) ∙ ap (λ n. length s.ready + n) (kept_length w [] ∙ omega arith)) in
    let ready : length n.ready ≡ size a.early + size a.now =
    ap (λ (x : State). length x.ready) a.state ∙ (kept_length a.early (kept a.now []) ∙ ap (λ n. size a.early + n) (kept_length a.now [] ∙ omega arith)) in
    let mode : owes n.mode ≡ owes a.mode = ap (λ (x : State). owes x.mode) a.state in
    omega (arith, few, twice, wait, given, ready, mode)
  where
    by : (b : Bool) → ◌≡◌ {A = ℕ} (cond b 0 2) (2 * cond b 0 1)
    by true = refl
    by false = refl

-- a run gives at most two quads for each token but the end, so counts of quads do not overflow
run_few : (form : DocForm) (ts : List Token) (s n : State) (qs : List Quad) → accept_all form s ts ≡ ran n qs →
    length qs + length n.ready + owes n.mode ≤ length s.ready + owes s.mode + 2 * counted ts
run_few form [] s n qs e =
    let z : ran s [] ≡ ran n qs = e in
    let same : s ≡ n = cc in
    let none : [] ≡ qs = cc in
    let size : 0 ≡ length qs = ap length none in
    let ready = ap (λ (x : State). length x.ready) same in
    let mode = ap (λ (x : State). owes x.mode) same in
    omega (arith, size, ready, mode)
run_few form (t ∷ ts) s n qs e = by (λ m rest x. run_few form ts m n rest x) (accept form s t.kind (leaf_of t)) refl e
  where
    by : ((m : State) (rest : List Quad) → accept_all form m ts ≡ ran n rest →
        length rest + length n.ready + owes n.mode ≤ length m.ready + owes m.mode + 2 * counted ts) →
        (a : Answer) → accept form s t.kind (leaf_of t) ≡ a → go a (λ x. accept_all form x ts) ≡ ran n qs →
        length qs + length n.ready + owes n.mode ≤ length s.ready + owes s.mode + 2 * counted (t ∷ ts)
    by ih (refuses r) h x = absurd (let z : refused r ≡ ran n qs = x in cc)
    by ih (accepts gs m) h x =
        let f = first_ran gs (accept_all form m ts) n qs x in
        let here = accept_few form s m t gs h in
        let more = ih m f.0 f.1 in
        let all : length qs ≡ length gs + length f.0 = ap length f.2 ∙ length-append gs f.0 in
        omega (arith, here, more, all)

-- A run from the start gives out at most two quads for each token.
pub ran_few : (form : DocForm) (start : InForce) (ts : List Token) (n : State) (qs : List Quad) → accept_all form (at_start start) ts ≡ ran n qs →
    length qs ≤ 2 * counted ts
ran_few form start ts n qs e = let h = run_few form ts (at_start start) n qs e in omega (arith, h)
