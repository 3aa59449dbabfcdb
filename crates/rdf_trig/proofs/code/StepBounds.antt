-- What every step of the machine keeps to: what its token stands for, how many brackets are open after it, how long a directive's prefix is.
use Rattle.rdf_trig.proofs.Prelude.{◌≡◌, ◌≤◌, ◌+◌, ℕ, List, Option, Some, None, refl, sym, ap, ◌∙◌, subst, arith, Kind, IriRef, LabelNode, ShortString, LongString, LangTag, Carets, Dot, Integer, Decimal, Double, True, False, A, AtPrefix, AtBase, Prefix, Base, Graph, PnameNs, PnameLn, Semicolon, Comma, OpenBracket, CloseBracket, OpenParen, CloseParen, OpenBrace, CloseBrace, End, Quad, byte_len, before, from, before-from, Leaf, DocForm, TriG, Setting, in_default, rest_quad, cell_at, node, Use, itself, Reply, No, Go, depth, depth_at, depth_around, depth_up, use_at, use_in, DepthMoves, ShortPrefix}
use Rattle.rdf_terms.specs.Terms as term
use Rattle.rdf_iri.proofs.ScopeLemmas.{byte_len-append}
use Rattle.rdf_trig.specs.declared.form.DocForm.TheVariants.{Turtle}
use Rattle.rdf_trig.specs.Machine as M

-- a reply to a token that stands for this, where so many brackets are open
abbrev Fits : Use → ℕ → Kind → Leaf → Reply → Type 0
Fits u n k l No = Unit {0}
Fits u n k l (Go v early now c m) = (v ≡ u) × DepthMoves k n (depth m) × ShortPrefix (byte_len l.text) m

-- each reply at the first token of an object keeps to this
object_fits : (c : Setting) (p : M.Place) (e : Option Quad) (k : Kind) (l : Leaf) → Fits (use_at c.scope k l) (depth_at p) k l (M.object_start c p e k l)
object_fits c p e IriRef l = (refl, refl, tt)
object_fits c p e PnameLn l = (refl, refl, tt)
object_fits c p e PnameNs l = (refl, refl, tt)
object_fits c p e LabelNode l = (refl, refl, tt)
object_fits c p e ShortString l = (refl, refl, tt)
object_fits c p e LongString l = (refl, refl, tt)
object_fits c p e Integer l = (refl, refl, tt)
object_fits c p e Decimal l = (refl, refl, tt)
object_fits c p e Double l = (refl, refl, tt)
object_fits c p e True l = (refl, refl, tt)
object_fits c p e False l = (refl, refl, tt)
object_fits c p e OpenBracket l = (refl, refl, tt)
object_fits c p e OpenParen l = (refl, refl, tt)
object_fits c p e k l = tt

-- each reply at the datatype of a string keeps to this
type_fits : (c : Setting) (w : List ℕ) (p : M.Place) (k : Kind) (l : Leaf) → Fits (use_at c.scope k l) (depth_at p) k l (M.want_type c w p k l)
type_fits c w p IriRef l = (refl, refl, tt)
type_fits c w p PnameLn l = (refl, refl, tt)
type_fits c w p PnameNs l = (refl, refl, tt)
type_fits c w p k l = tt

-- each reply at a verb keeps to this
verb_fits : (c : Setting) (s : M.Topic) (a : M.Around) (k : Kind) (l : Leaf) →
    Fits (use_at c.scope k l) (depth_around a) k l (M.verb_start c s a k l)
verb_fits c s a IriRef l = (refl, refl, tt)
verb_fits c s a PnameLn l = (refl, refl, tt)
verb_fits c s a PnameNs l = (refl, refl, tt)
verb_fits c s a A l = (refl, refl, tt)
verb_fits c s a k l = tt

-- after a subject no bracket is open
subject_depth : (form : DocForm) (v : M.Level) (s : M.Topic) (n : ℕ) →
    (depth (M.after_subject form v s) ≡ 0) × ShortPrefix n (M.after_subject form v s)
subject_depth TriG M.Top s n = (refl, tt)
subject_depth TriG M.InBlock s n = (refl, tt)
subject_depth Turtle M.Top s n = (refl, tt)
subject_depth Turtle M.InBlock s n = (refl, tt)

-- after `[]` one bracket fewer is open than inside it
node_depth : (form : DocForm) (u : M.Up) (s : M.Topic) (n : ℕ) →
    (depth (M.node_closed form u s) + 1 ≡ depth_up u + 1) × ShortPrefix n (M.node_closed form u s)
node_depth form (M.Subject v) s n = let d = subject_depth form v s n in (ap (λ x. x + 1) d.0, d.1)
node_depth form (M.At p) s n = (refl, tt)

-- after the ']' of a property list one bracket fewer is open than inside it
brackets_depth : (u : M.Up) (s : M.Topic) (n : ℕ) → (depth (M.property_list_closed u s) + 1 ≡ depth_up u + 1) × ShortPrefix n (M.property_list_closed u s)
brackets_depth (M.Subject v) s n = (refl, tt)
brackets_depth (M.At p) s n = (refl, tt)

-- after the ')' of a collection one parenthesis fewer is open than inside it
list_depth : (u : M.Up) (s : M.Topic) (n : ℕ) → (depth (M.collection_closed u s) + 1 ≡ depth_up u + 1) × ShortPrefix n (M.collection_closed u s)
list_depth (M.Subject v) s n = (refl, tt)
list_depth (M.At p) s n = (refl, tt)

-- each reply at the end of a predicate list keeps to this
end_fits : (c : Setting) (s : M.Topic) (a : M.Around) (k : Kind) (l : Leaf) → Fits (use_at c.scope k l) (depth_around a) k l (M.predicate_list_end c s a k l)
end_fits c s (M.Statement M.Top) Dot l = (refl, refl, tt)
end_fits c s (M.Statement M.InBlock) Dot l = (refl, refl, tt)
end_fits c s (M.Statement M.InBlock) CloseBrace l = (refl, refl, tt)
end_fits c s (M.InPropertyList u) CloseBracket l = let d = brackets_depth u s (byte_len l.text) in (refl, d.0, d.1)
end_fits c s a k l = tt

-- each reply after ';' keeps to this
semicolon_fits : (c : Setting) (s : M.Topic) (a : M.Around) (k : Kind) (l : Leaf) → Fits (use_at c.scope k l) (depth_around a) k l (M.after_semicolon c s a k l)
semicolon_fits c s a Semicolon l = (refl, refl, tt)
semicolon_fits c s a IriRef l = verb_fits c s a IriRef l
semicolon_fits c s a PnameLn l = verb_fits c s a PnameLn l
semicolon_fits c s a PnameNs l = verb_fits c s a PnameNs l
semicolon_fits c s a A l = verb_fits c s a A l
semicolon_fits c s a k l = end_fits c s a k l

-- each reply after an object keeps to this
after_fits : (c : Setting) (p : M.Place) (k : Kind) (l : Leaf) → Fits (use_at c.scope k l) (depth_at p) k l (M.after c p k l)
after_fits c (M.Listed s p a) Comma l = (refl, refl, tt)
after_fits c (M.Listed s p a) Semicolon l = (refl, refl, tt)
after_fits c (M.Listed s p a) k l = end_fits c s a k l
after_fits c (M.InCollection f n u) CloseParen l = let d = list_depth u (M.unsized (M.cell f)) (byte_len l.text) in (refl, d.0, d.1)
after_fits c (M.InCollection f n u) k l = object_fits c (M.InCollection f l.at.offset u) (rest_quad c (term.Cell n) (term.Blank (cell_at l))) k l

-- each reply after a string keeps to this
text_fits : (c : Setting) (w : List ℕ) (p : M.Place) (k : Kind) (l : Leaf) → Fits (use_at c.scope k l) (depth_at p) k l (M.after_text c w p k l)
text_fits c w p LangTag l = (refl, refl, tt)
text_fits c w p AtBase l = (refl, refl, tt)
text_fits c w p AtPrefix l = (refl, refl, tt)
text_fits c w p Carets l = (refl, refl, tt)
text_fits c w p k l = after_fits c p k l

-- each reply after '[' keeps to this
brackets_fits : (form : DocForm) (c : Setting) (n : ℕ) (u : M.Up) (k : Kind) (l : Leaf) →
    Fits (use_at c.scope k l) (depth_up u + 1) k l (M.property_list_start form c n u k l)
brackets_fits form c n u CloseBracket l = let d = node_depth form u (M.sized (node (term.Anon n))) (byte_len l.text) in (refl, d.0, d.1)
brackets_fits form c n u k l = verb_fits c (M.sized (node (term.Anon n))) (M.InPropertyList u) k l

-- each reply after '(' keeps to this
collection_start_fits : (c : Setting) (u : M.Up) (k : Kind) (l : Leaf) → Fits (use_at c.scope k l) (depth_up u + 1) k l (M.collection_start c u k l)
collection_start_fits c u CloseParen l = let d = list_depth u (M.unsized (Some M.nil)) (byte_len l.text) in (refl, d.0, d.1)
collection_start_fits c u k l = object_fits c (M.InCollection l.at.offset l.at.offset u) None k l

-- each reply after a property list that is a subject keeps to this
after_brackets_fits : (c : Setting) (s : M.Topic) (v : M.Level) (k : Kind) (l : Leaf) → Fits (use_at c.scope k l) 0 k l (M.after_property_list c s v k l)
after_brackets_fits c s v IriRef l = verb_fits c s (M.Statement v) IriRef l
after_brackets_fits c s v PnameLn l = verb_fits c s (M.Statement v) PnameLn l
after_brackets_fits c s v PnameNs l = verb_fits c s (M.Statement v) PnameNs l
after_brackets_fits c s v A l = verb_fits c s (M.Statement v) A l
after_brackets_fits c s v k l = end_fits c s (M.Statement v) k l

-- each reply at the first token of a subject keeps to this
subject_fits : (form : DocForm) (c : Setting) (v : M.Level) (k : Kind) (l : Leaf) → Fits (use_at c.scope k l) 0 k l (M.subject_start form c v k l)
subject_fits form c v IriRef l = let d = subject_depth form v _ (byte_len l.text) in (refl, d.0, d.1)
subject_fits form c v PnameLn l = let d = subject_depth form v _ (byte_len l.text) in (refl, d.0, d.1)
subject_fits form c v PnameNs l = let d = subject_depth form v _ (byte_len l.text) in (refl, d.0, d.1)
subject_fits form c v LabelNode l = let d = subject_depth form v _ (byte_len l.text) in (refl, d.0, d.1)
subject_fits form c v OpenBracket l = (refl, refl, tt)
subject_fits form c v OpenParen l = (refl, refl, tt)
subject_fits form c v k l = tt

-- each reply between statements keeps to this
start_fits : (form : DocForm) (c : Setting) (k : Kind) (l : Leaf) → Fits (use_at c.scope k l) 0 k l (M.start form c k l)
start_fits form c End l = (refl, refl, tt)
start_fits form c AtPrefix l = (refl, refl, tt)
start_fits form c Prefix l = (refl, refl, tt)
start_fits form c AtBase l = (refl, refl, tt)
start_fits form c Base l = (refl, refl, tt)
start_fits TriG c Graph l = (refl, refl, tt)
start_fits TriG c OpenBrace l = (refl, refl, tt)
start_fits Turtle c Graph l = tt
start_fits Turtle c OpenBrace l = tt
start_fits form c k l = subject_fits form (in_default c.scope) M.Top k l

-- each reply in a block keeps to this
inside_fits : (form : DocForm) (c : Setting) (k : Kind) (l : Leaf) → Fits (use_at c.scope k l) 0 k l (M.inside form c k l)
inside_fits form c CloseBrace l = (refl, refl, tt)
inside_fits form c k l = subject_fits form c M.InBlock k l

-- each reply before the '{' of a block with GRAPH keeps to this
brace_fits : (c : Setting) (g : Option term.Subject) (k : Kind) (l : Leaf) → Fits (use_at c.scope k l) 0 k l (M.want_brace c g k l)
brace_fits c g OpenBrace l = (refl, refl, tt)
brace_fits c g k l = tt

-- each reply after a label or subject keeps to this
label_fits : (c : Setting) (g : M.Topic) (k : Kind) (l : Leaf) → Fits (use_at c.scope k l) 0 k l (M.after_label c g k l)
label_fits c g OpenBrace l = (refl, refl, tt)
label_fits c g k l = verb_fits c g (M.Statement M.Top) k l

-- each reply after GRAPH keeps to this
graph_fits : (c : Setting) (k : Kind) (l : Leaf) → Fits (use_at c.scope k l) 0 k l (M.graph_word c k l)
graph_fits c IriRef l = (refl, refl, tt)
graph_fits c PnameLn l = (refl, refl, tt)
graph_fits c PnameNs l = (refl, refl, tt)
graph_fits c LabelNode l = (refl, refl, tt)
graph_fits c OpenBracket l = (refl, refl, tt)
graph_fits c k l = tt

-- each reply after the '[' of a label keeps to this; that bracket is open as well
graph_brackets_fits : (c : Setting) (n : ℕ) (k : Kind) (l : Leaf) → Fits (use_at c.scope k l) 1 k l (M.graph_bracket c n k l)
graph_brackets_fits c n CloseBracket l = (refl, refl, tt)
graph_brackets_fits c n k l = tt

-- directives
front_short : (c : ℕ) (w : List ℕ) → byte_len (before c w) ≤ byte_len w
front_short c w =
    let e : byte_len w ≡ byte_len (before c w) + byte_len (from c w) = ap byte_len (sym (before-from c w)) ∙ byte_len-append (before c w) (from c w) in
    omega (arith, e)

-- each reply at the prefix of a directive keeps to this: the prefix is no longer than its token
prefix_fits : (c : Setting) (w : M.Spelling) (k : Kind) (l : Leaf) → Fits itself 0 k l (M.want_prefix c w k l)
prefix_fits c w PnameNs l = (refl, refl, front_short 58 l.text)
prefix_fits c w k l = tt

-- no bracket is open in a directive
directive_depth : (w : M.Spelling) (n : ℕ) → (depth (M.directive_end w) ≡ 0) × ShortPrefix n (M.directive_end w)
directive_depth M.Dotted n = (refl, tt)
directive_depth M.Sparql n = (refl, tt)

-- each reply at the IRIREF that binds a prefix keeps to this
prefix_iri_fits : (c : Setting) (w : M.Spelling) (p : List ℕ) (k : Kind) (l : Leaf) →
    Fits (use_in c.scope (M.WantPrefixIri w p) k l) 0 k l (M.want_prefix_iri c w p k l)
prefix_iri_fits c w p IriRef l = let d = directive_depth w (byte_len l.text) in (refl, d.0, d.1)
prefix_iri_fits c w p k l = tt

-- each reply at the IRIREF of a base keeps to this
base_iri_fits : (c : Setting) (w : M.Spelling) (k : Kind) (l : Leaf) → Fits (use_in c.scope (M.WantBaseIri w) k l) 0 k l (M.want_base_iri c w k l)
base_iri_fits c w IriRef l = let d = directive_depth w (byte_len l.text) in (refl, d.0, d.1)
base_iri_fits c w k l = tt

-- each reply at the dot of a directive keeps to this
dot_fits : (c : Setting) (k : Kind) (l : Leaf) → Fits (use_at c.scope k l) 0 k l (M.want_dot c k l)
dot_fits c Dot l = (refl, refl, tt)
dot_fits c k l = tt

-- so every step of the machine keeps to all three
step_fits : (form : DocForm) (c : Setting) (m : M.Mode) (k : Kind) (l : Leaf) → Fits (use_in c.scope m k l) (depth m) k l (M.step form c m k l)
step_fits form c M.Start k l = start_fits form c k l
step_fits form c M.Over k l = tt
step_fits form c (M.WantPrefix w) k l = prefix_fits c w k l
step_fits form c (M.WantPrefixIri w p) k l = prefix_iri_fits c w p k l
step_fits form c (M.WantBaseIri w) k l = base_iri_fits c w k l
step_fits form c M.WantDot k l = dot_fits c k l
step_fits form c (M.AfterLabel g) k l = label_fits c g k l
step_fits form c M.GraphWord k l = graph_fits c k l
step_fits form c (M.GraphBracket n) k l = graph_brackets_fits c n k l
step_fits form c (M.WantBrace g) k l = brace_fits c g k l
step_fits form c M.Inside k l = inside_fits form c k l
step_fits form c (M.Want p) k l = object_fits c p None k l
step_fits form c (M.After p) k l = after_fits c p k l
step_fits form c (M.AfterText w p) k l = text_fits c w p k l
step_fits form c (M.WantType w p) k l = type_fits c w p k l
step_fits form c (M.PropertyListStart n u) k l = brackets_fits form c n u k l
step_fits form c (M.CollectionStart u) k l = collection_start_fits c u k l
step_fits form c (M.WantVerb s a) k l = verb_fits c s a k l
step_fits form c (M.AfterSemicolon s a) k l = semicolon_fits c s a k l
step_fits form c (M.AfterPropertyList s v) k l = after_brackets_fits c s v k l

-- what an accepted token stands for is what its kind and the mode say, so the reader may look it up beforehand
pub step_use : (form : DocForm) (c : Setting) (m : M.Mode) (k : Kind) (l : Leaf) (u : Use) (early now : Option Quad) (d : Setting) (n : M.Mode) →
    M.step form c m k l ≡ Go u early now d n → u ≡ use_in c.scope m k l
step_use form c m k l u early now d n e = (subst (Fits (use_in c.scope m k l) (depth m) k l) e (step_fits form c m k l)).0

-- an accepted token changes the number of open brackets by its kind alone, so the reader may count them
pub step_depth : (form : DocForm) (c : Setting) (m : M.Mode) (k : Kind) (l : Leaf) (u : Use) (early now : Option Quad) (d : Setting) (n : M.Mode) →
    M.step form c m k l ≡ Go u early now d n → DepthMoves k (depth m) (depth n)
step_depth form c m k l u early now d n e = (subst (Fits (use_in c.scope m k l) (depth m) k l) e (step_fits form c m k l)).1

-- the prefix that is kept for a directive has no more bytes than its token, which bounds the reader's memory
pub step_prefix : (form : DocForm) (c : Setting) (m : M.Mode) (k : Kind) (l : Leaf) (u : Use) (early now : Option Quad) (d : Setting) (n : M.Mode) →
    M.step form c m k l ≡ Go u early now d n → ShortPrefix (byte_len l.text) n
step_prefix form c m k l u early now d n e = (subst (Fits (use_in c.scope m k l) (depth m) k l) e (step_fits form c m k l)).2
