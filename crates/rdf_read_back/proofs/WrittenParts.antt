-- What the machine gives out is well formed, and as it is written none of its tokens is much longer than one that was read.
use Rattle.rdf_read_back.proofs.Prelude.{◌≡◌, ◌≢◌, ℕ, ◌+◌, ◌*◌, ◌^◌, ◌<◌, ◌≤◌, Bool, true, false, cond, List, [], ◌∷◌, ◌++◌, ◌==◌, nat_le, length, Option, Some, None, option_map, unwrap_or, refl, sym, ap, ◌∙◌, subst, ⊎_elim, arith, lit<, lit≤, length-append, length-drop, codes, flat_map, decimal, IfSome, AllByRecursion, Kind, LabelNode, ShortString, LongString, Integer, Decimal, Double, End, Node, Anon, Cell, Lang, Typed, Blank, Term, Resource, Literal, Quad, all_have, has_scheme, IsIri, IsNode, IsTag, Token, IsToken, byte_len, equal, InForce, bound_to, Leaf, leaf_of, token, iri_of, Escapes, Plain, Ascii, Tagged, string_width, iri_width, uchar, written, escaped, rename_node, node_text, iri_text, string_text, reference_in, name_in, prefix_of, local_of, with_base, with_binding, stated, named, resource, labelled, value_in, tag_of, typed_literal, Use, itself, stands, binds, HasIris}
use Rattle.std.proofs.Math.Utf8.{encode}
use Rattle.std.proofs.lemmas.Fmt.{length-decimal-le}
use Rattle.std.proofs.lemmas.Bool.{cond-true, cond-false, cond_both, eqb-true, false≢true}
use Rattle.std.proofs.lemmas.Bool.Decides.{nat_tests}
use Rattle.rdf_terms.specs.Classes.{has, scalar}
use Rattle.rdf_terms.specs.Classes.Class.{iri_char}
use Rattle.rdf_terms.specs.Regex.{Regex, Matches}
use Rattle.rdf_terms.specs.declared.kind.Dialect.TheVariants.{Turtle as turtle}
use Rattle.rdf_terms.specs.Shapes.{shape, Shape}
use Rattle.rdf_terms.specs.Values.{iri_value, local_value, inside}
use Rattle.rdf_terms.specs.Known.{known_chars}
use Rattle.rdf_terms.specs.declared.constants.Known.{Known}
use Rattle.rdf_terms.specs.declared.constants.Known.TheVariants.{RdfType, RdfFirst, RdfRest, RdfNil, XsdString, XsdInteger, XsdDecimal, XsdDouble, XsdBoolean}
use Rattle.rdf_terms.specs.Terms as term
use Rattle.rdf_terms.proofs.KnownLemmas.{IsIri-known_chars}
use Rattle.rdf_terms.proofs.ValuesLemmas.{iri_value_characters}
use Rattle.rdf_terms.proofs.LocalLemmas.{local-means}
use Rattle.rdf_terms.proofs.UsedCharacters.{uses, all_used}
use Rattle.rdf_iri.specs.Texts.{after}
use Rattle.rdf_iri.specs.Resolve.{resolved, based}
use Rattle.rdf_iri.proofs.ResolvedText.{IsIri-target}
use Rattle.rdf_iri.proofs.ScopeLemmas.{IsIri-append}
use Rattle.rdf_lines.proofs.WellFormed.{matched_scalar, string_scalars}
use Rattle.rdf_terms.proofs.SpelledLemmas.{label_in, string_short}
use Rattle.rdf_lines.proofs.WrittenLimits.{written_string, written_iri, string_room, iri_room, token_room}
use Rattle.rdf_trig.specs.Spelled.{SpellsTag}
use Rattle.rdf_trig.proofs.trees.NamesLemmas.{binds_prefix}
use Rattle.rdf_trig.proofs.code.SpelledLemmas.{spelled_tag}

-- each character of a reference is one that an IRI has
reference_text : (l : Leaf) → all_have (has iri_char) (iri_of l) ≡ true
reference_text l = by (iri_value (inside 1 l.text)) refl
  where
    by : (o : Option (List ℕ)) → iri_value (inside 1 l.text) ≡ o → all_have (has iri_char) (unwrap_or o []) ≡ true
    by None e = refl
    by (Some v) e = iri_value_characters (inside 1 l.text) v e

-- and so is the local part of a name
local_text : (l : Leaf) → all_have (has iri_char) (local_of l) ≡ true
local_text l = by (local_value (unwrap_or (after 58 l.text) [])) refl
  where
    by : (o : Option (List ℕ)) → local_value (unwrap_or (after 58 l.text) []) ≡ o → all_have (has iri_char) (unwrap_or o []) ≡ true
    by None e = refl
    by (Some v) e = (local-means false (unwrap_or (after 58 l.text) []) v e).1

-- what a reference is resolved to, or is itself, is an IRI
based_iri : (base : Option (List ℕ)) (l : Leaf) → IfSome base IsIri → IfSome (based base (iri_of l)) IsIri
based_iri None l h = tt
based_iri (Some b) l h = IsIri-target b (iri_of l) h (reference_text l)

-- a reference with a scheme, or one that has been resolved, is an absolute IRI
absolute_or_based : (base : Option (List ℕ)) (l : Leaf) (b : Bool) → has_scheme (iri_of l) ≡ b → IfSome base IsIri →
    IfSome (cond b (Some (iri_of l)) (based base (iri_of l))) IsIri
absolute_or_based base l true e h = record { characters = reference_text l; scheme = e }
absolute_or_based base l false e h = based_iri base l h

-- an IRIREF stands for an absolute IRI, or for nothing
pub reference_iri : (s : InForce) (l : Leaf) → HasIris s → IfSome (reference_in s l) IsIri
unfolding reference_in resolved
reference_iri s l h = absolute_or_based s.base l (has_scheme (iri_of l)) refl h.base

-- and so is what a prefix is bound to, with the local part after it
joined_iri : (o : Option (List ℕ)) (l : Leaf) → ((i : List ℕ) → o ≡ Some i → IsIri i) → IfSome (option_map (λ front. front ++ local_of l) o) IsIri
joined_iri None l f = tt
joined_iri (Some i) l f = IsIri-append i (local_of l) (f i refl) (local_text l)

-- a prefixed name stands for an absolute IRI, or for nothing, in a scope whose bindings are IRIs
pub name_iri : (s : InForce) (l : Leaf) → HasIris s → IfSome (name_in s l) IsIri
unfolding name_in
name_iri s l h = joined_iri (bound_to s.bindings (prefix_of l)) l (h.bindings (prefix_of l))

-- and they are still after a directive
pub base_iris : (s : InForce) (i : Option (List ℕ)) → HasIris s → IfSome i IsIri → HasIris (with_base s i)
base_iris s None h f = h
base_iris s (Some i) h f = record { base = f; bindings = h.bindings }

-- a binding keeps the scope's IRIs absolute, which carries this over a document
pub binding_iris : (s : InForce) (p : List ℕ) (i : Option (List ℕ)) → HasIris s → IfSome i IsIri → HasIris (with_binding s p i)
binding_iris s p None h f = h
binding_iris s p (Some i) h f = record { base = h.base; bindings = λ q v e. by q v (equal p q) refl (sym ((binds_prefix s p i).bound q) ∙ e) }
  where
    by : (q v : List ℕ) (b : Bool) → equal p q ≡ b → cond (equal p q) (Some i) (bound_to s.bindings q) ≡ Some v → IsIri v
    by q v true t e = let z : Some i ≡ Some v = sym (cond-true (equal p q) (Some i) (bound_to s.bindings q) t) ∙ e in subst IsIri (ap (λ o. unwrap_or o []) z) f
    by q v false t e = h.bindings q v (sym (cond-false (equal p q) (Some i) (bound_to s.bindings q) t) ∙ e)

-- the longest of the IRIs that a document means without spelling them has 48 characters
known_bytes : (k : Known) → byte_len (known_chars k) ≤ 62
unfolding known_chars encode
known_bytes RdfType = lit≤ tt
known_bytes RdfFirst = lit≤ tt
known_bytes RdfRest = lit≤ tt
known_bytes RdfNil = lit≤ tt
known_bytes XsdString = lit≤ tt
known_bytes XsdInteger = lit≤ tt
known_bytes XsdDecimal = lit≤ tt
known_bytes XsdDouble = lit≤ tt
known_bytes XsdBoolean = lit≤ tt

-- as they are written, since their characters are ASCII
plain_known : (k : Known) → length (iri_text Plain (known_chars k)) ≤ 64
unfolding known_chars
plain_known RdfType = lit≤ tt
plain_known RdfFirst = lit≤ tt
plain_known RdfRest = lit≤ tt
plain_known RdfNil = lit≤ tt
plain_known XsdString = lit≤ tt
plain_known XsdInteger = lit≤ tt
plain_known XsdDecimal = lit≤ tt
plain_known XsdDouble = lit≤ tt
plain_known XsdBoolean = lit≤ tt

ascii_known : (k : Known) → length (iri_text Ascii (known_chars k)) ≤ 64
unfolding known_chars
ascii_known RdfType = lit≤ tt
ascii_known RdfFirst = lit≤ tt
ascii_known RdfRest = lit≤ tt
ascii_known RdfNil = lit≤ tt
ascii_known XsdString = lit≤ tt
ascii_known XsdInteger = lit≤ tt
ascii_known XsdDecimal = lit≤ tt
ascii_known XsdDouble = lit≤ tt
ascii_known XsdBoolean = lit≤ tt

written_known : (e : Escapes) (k : Known) → length (iri_text e (known_chars k)) ≤ 64
written_known Plain k = plain_known k
written_known Ascii k = ascii_known k

-- A text that is written as it is, since it has no character that is escaped.
record Unescaped (r : Regex) : Type 0 where
  low : (c : ℕ) → uses r c ≡ true → nat_le c 127 ≡ true
  quote : uses r 34 ≡ false
  backslash : uses r 92 ≡ false
  feed : uses r 10 ≡ false
  return : uses r 13 ≡ false

-- a character that is not escaped is written as it is
itself_written : (e : Escapes) (c : ℕ) → nat_le c 127 ≡ true → length (written e c) ≡ 1
itself_written Plain c h = refl
itself_written Ascii c h = ap length (cond-true (nat_le c 127) (c ∷ []) (uchar c) h)

-- a character that is not escaped is written as it is
itself_escaped : (e : Escapes) (r : Regex) → Unescaped r → (c : ℕ) → uses r c ≡ true → length (escaped e c) ≡ 1
itself_escaped e r u c h =
    cond_both (c == 34) _ _ One (λ e. absurd (never 34 u.quote e))
    (λ _. cond_both (c == 92) _ _ One (λ e. absurd (never 92 u.backslash e))
    (λ _. cond_both (c == 10) _ _ One (λ e. absurd (never 10 u.feed e))
    (λ _. cond_both (c == 13) _ _ One (λ e. absurd (never 13 u.return e)) (λ _. itself_written e c (u.low c h)))))
  where
    One : List ℕ → Type 0
    One x = length x ≡ 1

    never : (x : ℕ) → uses r x ≡ false → (c == x) ≡ true → ⊥
    never x n e = false≢true (sym n ∙ subst (λ y. uses r y ≡ true) (eqb-true c x e) h)

-- a text of characters that need no escape is as long when it is written
unescaped_length : (e : Escapes) (r : Regex) → Unescaped r → (w : List ℕ) → AllByRecursion (λ c. uses r c ≡ true) w → length (flat_map (escaped e) w) ≡ length w
unescaped_length e r u [] a = refl
unescaped_length e r u (c ∷ w) a =
    let x = itself_escaped e r u c a.0 in
    let y = unescaped_length e r u w a.1 in
    let s = length-append (escaped e c) (flat_map (escaped e) w) in
    omega (arith, x, y, s)

-- so it has two characters more, the quotes
unescaped_text : (e : Escapes) (r : Regex) → Unescaped r → (w : List ℕ) → Matches r w → length (string_text e w) ≡ length w + 2
unescaped_text e r u w m =
    let x = unescaped_length e r u w (all_used r w m) in
    let s = length-append (flat_map (escaped e) w) (34 ∷ []) in
    omega (arith, x, s)

-- no number has a character that is escaped
integer_low : (c : ℕ) → uses (shape turtle Integer) c ≡ true → nat_le c 127 ≡ true
unfolding shape has
integer_low c h = grind (arith, nat_tests)

decimal_low : (c : ℕ) → uses (shape turtle Decimal) c ≡ true → nat_le c 127 ≡ true
unfolding shape has
decimal_low c h = grind (arith, nat_tests)

double_low : (c : ℕ) → uses (shape turtle Double) c ≡ true → nat_le c 127 ≡ true
unfolding shape has
double_low c h = grind (arith, nat_tests)

-- no number has a character that is escaped
integer_unescaped : Unescaped (shape turtle Integer)
unfolding shape has
integer_unescaped = record { low = integer_low; quote = refl; backslash = refl; feed = refl; return = refl }

-- a DECIMAL needs no escape
decimal_unescaped : Unescaped (shape turtle Decimal)
unfolding shape has
decimal_unescaped = record { low = decimal_low; quote = refl; backslash = refl; feed = refl; return = refl }

-- a DOUBLE needs no escape
double_unescaped : Unescaped (shape turtle Double)
unfolding shape has
double_unescaped = record { low = double_low; quote = refl; backslash = refl; feed = refl; return = refl }

true_text : (e : Escapes) → length (string_text e (codes "true")) ≤ 64
true_text Plain = lit≤ tt
true_text Ascii = lit≤ tt

false_text : (e : Escapes) → length (string_text e (codes "false")) ≤ 64
false_text Plain = lit≤ tt
false_text Ascii = lit≤ tt

-- Limits of what is read, and limits, higher by what the escapes take, of what is written for it.
pub record Room : Type 0 where
  pub form : Escapes
  pub most : ℕ
  pub iri : ℕ
  pub most_then : ℕ
  pub iri_then : ℕ
  pub twice : string_width form * most ≤ most_then
  pub brackets : iri_width form * iri + 2 ≤ most_then
  pub least : 64 ≤ most_then
  pub higher : iri ≤ iri_then
  pub least_iri : 64 ≤ iri_then

module _ (r : Room) where
  -- the parts of a quad that are well formed, and written within the limits
  abbrev pub FitIri : List ℕ → Type 0
  FitIri i = IsIri i × (byte_len i ≤ r.iri_then) × (length (iri_text r.form i) ≤ r.most_then)

  abbrev pub FitNode : Node → Type 0
  FitNode n = IsNode n × (length (node_text (rename_node Tagged n)) ≤ r.most_then)

  abbrev pub FitSubject : term.Subject → Type 0
  FitSubject (term.Iri i) = FitIri i
  FitSubject (Blank n) = FitNode n

  abbrev pub FitWord : List ℕ → Type 0
  FitWord w = (all_have scalar w ≡ true) × (length (string_text r.form w) ≤ r.most_then)

  abbrev pub FitTail : term.Tail → Type 0
  FitTail (Lang t) = IsTag t × (length (64 ∷ t) ≤ r.most_then)
  FitTail (Typed i) = FitIri i

  abbrev pub FitTerm : Term → Type 0
  FitTerm (Resource s) = FitSubject s
  FitTerm (Literal w t) = FitWord w × FitTail t

  abbrev pub FitQuad : Quad → Type 0
  FitQuad q = FitSubject q.subject × FitIri q.predicate × FitTerm q.object × IfSome q.graph FitSubject

  -- what is known of each token: its length, its shape, and that its offset is within the range of an offset
  abbrev pub Good : Kind → Leaf → Type 0
  Good k l = (length l.text ≤ r.most) × IsToken turtle (token k l) × (l.at.offset < 2 ^ 64)

  abbrev pub GoodToken : Token → Type 0
  GoodToken t = Good t.kind (leaf_of t)

  -- the IRI that a token stands for is within the limit
  abbrev pub Within : Use → Type 0
  Within itself = Unit
  Within (stands None) = Unit
  Within (stands (Some i)) = byte_len i ≤ r.iri
  Within (binds full i) = Unit

  -- Parts that fit make parts that fit.
  pub known_fits : (k : Known) → FitIri (known_chars k)
  known_fits k =
      let n = known_bytes k in
      let w = written_known r.form k in
      (IsIri-known_chars k, omega (arith, r.least_iri), omega (arith, r.least))

  pub named_fits : (i : Option (List ℕ)) → IfSome i IsIri → Within (stands i) → IfSome i FitIri
  named_fits None f w = tt
  named_fits (Some i) f w = let x = written_iri r.form i in let y = iri_room r.form (byte_len i) r.iri r.most_then w r.brackets in
      (f, omega (arith, r.higher), omega arith)

  pub subject_named : (i : Option (List ℕ)) → IfSome i FitIri → IfSome (named i) FitSubject
  subject_named None f = tt
  subject_named (Some i) f = f

  pub resource_fits : (s : Option term.Subject) → IfSome s FitSubject → IfSome (resource s) FitTerm
  resource_fits None f = tt
  resource_fits (Some s) f = f

  pub typed_fits : (w : List ℕ) (i : Option (List ℕ)) → FitWord w → IfSome i FitIri → IfSome (typed_literal w i) FitTerm
  typed_fits w None h f = tt
  typed_fits w (Some i) h f = (h, f)

  pub stated_fits : (g : Option (Option term.Subject)) (s : Option term.Subject) (p : Option (List ℕ)) (o : Option Term) →
      IfSome g (λ x. IfSome x FitSubject) → IfSome s FitSubject →
      IfSome p FitIri → IfSome o FitTerm → IfSome (stated g s p o) FitQuad
  stated_fits (Some g) (Some s) (Some p) (Some o) fg fs fp fo = (fs, fp, fo, fg)
  stated_fits (Some g) (Some s) (Some p) None fg fs fp fo = tt
  stated_fits (Some g) (Some s) None o fg fs fp fo = tt
  stated_fits (Some g) None p o fg fs fp fo = tt
  stated_fits None s p o fg fs fp fo = tt

  -- a node that is named by an offset, which has at most 20 digits
  offset_digits : (n : ℕ) → n < 2 ^ 64 → length (decimal n) ≤ 20
  offset_digits n h = let far : 2 ^ 64 ≤ 10 ^ 20 = lit≤ tt in length-decimal-le 20 n (lit< tt) (omega arith) h

  pub anon_fits : (n : ℕ) → n < 2 ^ 64 → FitNode (Anon n)
  anon_fits n h = let x = offset_digits n h in (h, omega (arith, r.least))

  pub cell_fits : (n : ℕ) → n < 2 ^ 64 → FitNode (Cell n)
  cell_fits n h = let x = offset_digits n h in (h, omega (arith, r.least))

  -- What tokens spell fits. A token that is not the end has the shape of its kind.
  shaped : (k : Kind) (l : Leaf) → k ≢ End → Good k l → Shape turtle k l.text
  shaped k l n g = ⊎_elim (λ x. absurd (n x.0)) (λ x. x.0) g.1

  pub label_fits : (l : Leaf) → Good LabelNode l → FitNode (labelled l)
  label_fits l g =
      let s = length-drop 2 l.text in
      let z = g.0 in
      let t = token_room r.form r.most r.most_then r.twice in
      (label_in turtle l.text (shaped LabelNode l (λ x. let z : LabelNode ≡ End = x in cc) g), omega (arith, s, t, r.least))

  pub short_fits : (l : Leaf) → Good ShortString l → FitWord (value_in 1 l)
  short_fits l g =
      let m = shaped ShortString l (λ x. let z : ShortString ≡ End = x in cc) g in
      let w = written_string r.form (value_in 1 l) in
      let z = string_room r.form (length (value_in 1 l)) (length l.text) r.most r.most_then (string_short 1 l.text) g.0 r.twice r.least in
      (string_scalars (shape turtle ShortString) 1 l.text m, omega (arith, w, z))

  pub long_fits : (l : Leaf) → Good LongString l → FitWord (value_in 3 l)
  long_fits l g =
      let m = shaped LongString l (λ x. let z : LongString ≡ End = x in cc) g in
      let s = string_short 3 l.text in
      let w = written_string r.form (value_in 3 l) in
      let z = string_room r.form (length (value_in 3 l)) (length l.text) r.most r.most_then (omega arith) g.0 r.twice r.least in
      (string_scalars (shape turtle LongString) 3 l.text m, omega (arith, w, z))

  -- a number is written with its quotes alone
  number_fits : (x : Regex) → Unescaped x → (w : List ℕ) → Matches x w → length w ≤ r.most → FitWord w
  number_fits x u w m l =
      let s = unescaped_text r.form x u w m in
      let t = token_room r.form r.most r.most_then r.twice in
      (matched_scalar x w m, omega (arith, s, t, r.least))

  pub integer_fits : (l : Leaf) → Good Integer l → FitWord l.text
  integer_fits l g = number_fits (shape turtle Integer) integer_unescaped l.text (shaped Integer l (λ x. let z : Integer ≡ End = x in cc) g) g.0

  pub decimal_fits : (l : Leaf) → Good Decimal l → FitWord l.text
  decimal_fits l g = number_fits (shape turtle Decimal) decimal_unescaped l.text (shaped Decimal l (λ x. let z : Decimal ≡ End = x in cc) g) g.0

  pub double_fits : (l : Leaf) → Good Double l → FitWord l.text
  double_fits l g = number_fits (shape turtle Double) double_unescaped l.text (shaped Double l (λ x. let z : Double ≡ End = x in cc) g) g.0

  pub true_fits : FitWord (codes "true")
  true_fits = (refl, let s = true_text r.form in omega (arith, s, r.least))

  pub false_fits : FitWord (codes "false")
  false_fits = (refl, let s = false_text r.form in omega (arith, s, r.least))

  pub tag_fits : (k : Kind) (l : Leaf) → SpellsTag k → k ≢ End → Good k l → FitTail (Lang (tag_of l))
  tag_fits k l t n g =
      let s = length-drop 1 l.text in
      let z = g.0 in
      let m = token_room r.form r.most r.most_then r.twice in
      (spelled_tag k l.text t (shaped k l n g), omega (arith, s, m, r.least))
