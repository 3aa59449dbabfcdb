-- Each state has one completion, which needs no binding and no base.
use Rattle.rdf_trig.proofs.Prelude.{◌≡◌, ℕ, Bool, true, false, List, [], ◌∷◌, Option, Some, None, refl, ap, ◌∙◌, codes, resolved, first_place, Kind, IriRef, Dot, PnameNs, CloseBracket, CloseParen, OpenBrace, CloseBrace, End, Anon, Cell, Quad, Token, InForce, Leaf, token, DocForm, TriG, prefix_of, reference_in, with_base, with_binding, is_full, Setting, in_default, named, node, resource, plain_literal, typed_literal, rest_quad, Use, itself, stands, binds, Event, Took, Gave, give, Topic, Spelt, sized, unsized, spelt, Top, InBlock, Listed, InCollection, Around, Statement, InPropertyList, Up, At, Dotted, Sparql, Start, Over, WantPrefix, WantPrefixIri, WantBaseIri, WantDot, AfterLabel, GraphWord, GraphBracket, WantBrace, Inside, Want, After, AfterText, WantType, PropertyListStart, CollectionStart, WantVerb, AfterSemicolon, AfterPropertyList, Go, goes, cell, quad_at, nil, after_subject, node_closed, property_list_closed, collection_closed, directive_end, waiting, fronted, put, go_on, run}
use Rattle.rdf_terms.specs.Classes.{has}
use Rattle.rdf_terms.specs.Terms as term
use Rattle.rdf_trig.specs.declared.form.DocForm.TheVariants.{Turtle}
use Rattle.rdf_trig.specs.Machine.{Level, Place, Subject, Spelling, Mode, step}
use Rattle.rdf_trig.proofs.machine.Completeness.{text_run}

-- whether a token that stands for this is taken: with a name that stands for something, or with any
abbrev pub has_iri : Use → Bool
has_iri itself = true
has_iri (stands None) = false
has_iri (stands (Some i)) = true
has_iri (binds full None) = false
has_iri (binds full (Some i)) = true

-- what a token stands for is admitted: where the test is strict, it has to have an IRI
abbrev pub admits : Bool → Use → Bool
admits true u = has_iri u
admits false u = true

-- what each token of some events stands for is admitted
abbrev pub AllAdmitted : Bool → List Event → Type 0
AllAdmitted strict [] = Unit {0}
AllAdmitted strict (Took t u ∷ es) = (admits strict u ≡ true) × AllAdmitted strict es
AllAdmitted strict (Gave q ∷ es) = AllAdmitted strict es

-- a token of this text; the completion's tokens need no place
abbrev leaf : List ℕ → Leaf
leaf w = record { text = w; at = first_place }

-- the tokens of completions
abbrev pub colon : Leaf
colon = leaf (codes ":")

-- an IRIREF with a scheme, which needs no base
abbrev pub any_iri : Leaf
any_iri = leaf (codes "<a:>")

-- the IRI of completions, as a token
abbrev pub iri : Token
iri = token IriRef any_iri

-- the end of a statement or a directive
abbrev pub dot : Token
dot = token Dot (leaf (codes "."))

-- the beginning of a block
abbrev pub brace : Token
brace = token OpenBrace (leaf (codes "{"))

-- the end of a block
abbrev pub close_brace : Token
close_brace = token CloseBrace (leaf (codes "}"))

-- the end of a property list
abbrev pub close_bracket : Token
close_bracket = token CloseBracket (leaf (codes "]"))

-- the end of a collection
abbrev pub close_paren : Token
close_paren = token CloseParen (leaf (codes ")"))

-- the end of the input
abbrev pub the_end : Token
the_end = token End (leaf [])

-- what ends a statement and the document, where a block is left first
abbrev pub close_level : Level → List Token
close_level Top = dot ∷ the_end ∷ []
close_level InBlock = close_brace ∷ the_end ∷ []

-- what completes a statement whose subject has been read
abbrev pub close_verb : Level → List Token
close_verb v = iri ∷ iri ∷ close_level v

abbrev mutual
  pub close_place : Place → List Token
  close_place (Listed s p a) = close_around a
  close_place (InCollection f n u) = close_paren ∷ close_list u

  pub close_list : Up → List Token
  close_list (Subject v) = close_verb v
  close_list (At p) = close_place p

  pub close_brackets : Up → List Token
  close_brackets (Subject v) = close_level v
  close_brackets (At p) = close_place p

  pub close_around : Around → List Token
  close_around (Statement v) = close_level v
  close_around (InPropertyList u) = close_bracket ∷ close_brackets u

-- what completes a directive whose IRIREF has been read
abbrev pub close_directive : Spelling → List Token
close_directive Dotted = dot ∷ the_end ∷ []
close_directive Sparql = the_end ∷ []

-- what completes a block whose label has been read
abbrev pub close_block : List Token
close_block = brace ∷ close_brace ∷ the_end ∷ []

-- what completes a document from each state
abbrev pub close : Mode → List Token
close Start = the_end ∷ []
close Over = []
close (WantPrefix w) = token PnameNs colon ∷ iri ∷ close_directive w
close (WantPrefixIri w p) = iri ∷ close_directive w
close (WantBaseIri w) = iri ∷ close_directive w
close WantDot = dot ∷ the_end ∷ []
close (AfterLabel g) = close_verb Top
close GraphWord = iri ∷ close_block
close (GraphBracket n) = close_bracket ∷ close_block
close (WantBrace g) = close_block
close Inside = close_brace ∷ the_end ∷ []
close (Want p) = iri ∷ close_place p
close (After p) = close_place p
close (AfterText w p) = close_place p
close (WantType w p) = iri ∷ close_place p
close (PropertyListStart n u) = close_bracket ∷ close_list u
close (CollectionStart u) = close_paren ∷ close_list u
close (WantVerb s a) = iri ∷ iri ∷ close_around a
close (AfterSemicolon s a) = close_around a
close (AfterPropertyList s v) = close_level v

-- <a:> has a scheme, so it stands for itself in every scope
any_iri_stands : (s : InForce) → reference_in s any_iri ≡ Some (codes "a:")
unfolding reference_in resolved has
any_iri_stands s = refl

-- its IRI is admitted in every scope
pub any_iri_passes : (strict : Bool) (s : InForce) → admits strict (stands (reference_in s any_iri)) ≡ true
any_iri_passes true s = ap (λ i. has_iri (stands i)) (any_iri_stands s)
any_iri_passes false s = refl

-- a binding of a prefix to it is admitted, also where it would be one too many
binding_passes : (strict full : Bool) (s : InForce) → admits strict (binds full (reference_in s any_iri)) ≡ true
binding_passes true full s = ap (λ i. has_iri (binds full i)) (any_iri_stands s)
binding_passes false full s = refl

-- a token that stands for nothing but itself is admitted
pub itself_passes : (strict : Bool) → admits strict itself ≡ true
itself_passes true = refl
itself_passes false = refl

module _ (strict : Bool) (form : DocForm) where
  -- these tokens are read from a state, and each name means something
  pub record Accepts (c : Setting) (m : Mode) (ts : List Token) : Type 0 where
    pub events : List Event
    pub runs : run form c m ts ≡ Some events
    pub bound : AllAdmitted strict events

  pub passing_give : (q : Option Quad) (es : List Event) → AllAdmitted strict es → AllAdmitted strict (give q es)
  passing_give None es b = b
  passing_give (Some q) es b = b

  pub passing_back : (q : Option Quad) (es : List Event) → AllAdmitted strict (give q es) → AllAdmitted strict es
  passing_back None es b = b
  passing_back (Some q) es b = b

  takes : (k : Kind) (l : Leaf) (u : Use) (early now : Option Quad) {c : Setting} {m : Mode} {c' : Setting} {m' : Mode} {ts : List Token} →
      admits strict u ≡ true → step form c m k l ≡ Go u early now c' m' → Accepts c' m' ts →
      Accepts c m (token k l ∷ ts)
  takes k l u early now {c} {m} {c'} {m'} {ts} p s a = record {
    events = give (waiting c m k l) (Took (token k l) u ∷ give early (give now a.events));
    runs = ap (λ r. fronted (waiting c m k l) (go_on (token k l) r (λ c1 m1. run form c1 m1 ts))) s
        ∙ ap (λ o. fronted (waiting c m k l) (put (token k l) u early now o)) a.runs;
    bound = passing_give (waiting c m k l) _ (p, passing_give early _ (passing_give now _ a.bound));
  }

  plain : (k : Kind) (l : Leaf) {c : Setting} {m : Mode} {c' : Setting} {m' : Mode} {ts : List Token} → step form c m k l ≡ goes c' m' → Accepts c' m' ts →
      Accepts c m (token k l ∷ ts)
  plain k l s a = takes k l itself None None (itself_passes strict) s a

  named_by : (early now : Option Quad) {c : Setting} {m : Mode} {c' : Setting} {m' : Mode} {ts : List Token} →
      step form c m IriRef any_iri ≡ Go (stands (reference_in c.scope any_iri)) early now c' m' → Accepts c' m' ts →
      Accepts c m (iri ∷ ts)
  named_by early now {c} s a = takes IriRef any_iri (stands (reference_in c.scope any_iri)) early now (any_iri_passes strict c.scope) s a

  at_end : (c : Setting) → Accepts c Start (the_end ∷ [])
  at_end c = plain End (leaf []) refl record { events = []; runs = refl; bound = tt }

  level_closes : (v : Level) (c : Setting) (s : Topic) (p : Spelt) → Accepts c (After (Listed s p (Statement v))) (close_level v)
  level_closes Top c s p = plain Dot (leaf (codes ".")) refl (at_end c)
  level_closes InBlock c s p = plain CloseBrace (leaf (codes "}")) refl (at_end (in_default c.scope))

  brackets_closes : (v : Level) (c : Setting) (s : Topic) → Accepts c (AfterPropertyList s v) (close_level v)
  brackets_closes Top c s = plain Dot (leaf (codes ".")) refl (at_end c)
  brackets_closes InBlock c s = plain CloseBrace (leaf (codes "}")) refl (at_end (in_default c.scope))

  object_closes : (c : Setting) (p : Place) (ts : List Token) → Accepts c (After p) ts → Accepts c (Want p) (iri ∷ ts)
  object_closes c p ts a = named_by None (quad_at c p (resource (named (reference_in c.scope any_iri)))) refl a

  verb_closes : (v : Level) (c : Setting) (s : Topic) → Accepts c (WantVerb s (Statement v)) (close_verb v)
  verb_closes v c s =
      named_by None None refl (object_closes c (Listed s (spelt (reference_in c.scope any_iri)) (Statement v)) (close_level v)
      (level_closes v c s (spelt (reference_in c.scope any_iri))))

  label_closes : (c : Setting) (s : Topic) → Accepts c (AfterLabel s) (close_verb Top)
  label_closes c s =
      named_by None None refl (object_closes c (Listed s (spelt (reference_in c.scope any_iri)) (Statement Top)) (close_level Top)
      (level_closes Top c s (spelt (reference_in c.scope any_iri))))

  mutual
    place_closes : (p : Place) (c : Setting) → Accepts c (After p) (close_place p)
    place_closes (Listed s p (Statement v)) c = level_closes v c s p
    place_closes (Listed s p (InPropertyList u)) c = plain CloseBracket (leaf (codes "]")) refl (up_brackets u c s)
    place_closes (InCollection f n u) c = takes CloseParen (leaf (codes ")")) itself None (rest_quad c (Cell n) nil)
        (itself_passes strict) refl (up_list u c (unsized (cell f)))

    up_list : (u : Up) (c : Setting) (s : Topic) → Accepts c (collection_closed u s) (close_list u)
    up_list (Subject v) c s = verb_closes v c s
    up_list (At p) c s = place_closes p c

    up_brackets : (u : Up) (c : Setting) (s : Topic) → Accepts c (property_list_closed u s) (close_brackets u)
    up_brackets (Subject v) c s = brackets_closes v c s
    up_brackets (At p) c s = place_closes p c

  brace_closes : (c : Setting) (g : Option term.Subject) → Accepts c (WantBrace g) close_block
  brace_closes c g = plain OpenBrace (leaf (codes "{")) refl (plain CloseBrace (leaf (codes "}")) refl (at_end (in_default c.scope)))

  around_closes : (a : Around) (c : Setting) (s : Topic) → Accepts c (AfterSemicolon s a) (close_around a)
  around_closes (Statement Top) c s = plain Dot (leaf (codes ".")) refl (at_end c)
  around_closes (Statement InBlock) c s = plain CloseBrace (leaf (codes "}")) refl (at_end (in_default c.scope))
  around_closes (InPropertyList u) c s = plain CloseBracket (leaf (codes "]")) refl (up_brackets u c s)

  directive_closes : (w : Spelling) (c : Setting) → Accepts c (directive_end w) (close_directive w)
  directive_closes Dotted c = plain Dot (leaf (codes ".")) refl (at_end c)
  directive_closes Sparql c = at_end c

  prefix_closes : (w : Spelling) (p : List ℕ) (c : Setting) → Accepts c (WantPrefixIri w p) (iri ∷ close_directive w)
  prefix_closes w p c =
      takes IriRef any_iri (binds (is_full c.scope p) (reference_in c.scope any_iri)) None None (binding_passes strict (is_full c.scope p) c.scope) refl
      (directive_closes w (in_default (with_binding c.scope p (reference_in c.scope any_iri))))

  text_closes : (c : Setting) (w : List ℕ) (p : Place) (ts : List Token) → Accepts c (After p) ts → Accepts c (AfterText w p) ts
  text_closes c w p ts a = record {
    events = give (quad_at c p (plain_literal w)) a.events;
    runs = text_run form c w p ts a.events a.runs;
    bound = passing_give (quad_at c p (plain_literal w)) a.events a.bound;
  }

-- after a subject, in both forms
subject_closes : (strict : Bool) (form : DocForm) (v : Level) (c : Setting) (s : Topic) →
    Accepts strict form c (after_subject form v s) (close_verb v)
subject_closes strict form InBlock c s = verb_closes strict form InBlock c s
subject_closes strict Turtle Top c s = verb_closes strict Turtle Top c s
subject_closes strict TriG Top c s = label_closes strict TriG c s

module _ (strict : Bool) (form : DocForm) where
  up_node : (u : Up) (c : Setting) (s : Topic) → Accepts strict form c (node_closed form u s) (close_list u)
  up_node (Subject v) c s = subject_closes strict form v c s
  up_node (At p) c s = place_closes strict form p c

  pub closes : (m : Mode) (c : Setting) → Accepts strict form c m (close m)
  closes Start c = at_end strict form c
  closes Over c = record { events = []; runs = refl; bound = tt }
  closes (WantPrefix w) c = plain strict form PnameNs colon refl (prefix_closes strict form w (prefix_of colon) c)
  closes (WantPrefixIri w p) c = prefix_closes strict form w p c
  closes (WantBaseIri w) c =
      named_by strict form None None refl (directive_closes strict form w (in_default (with_base c.scope (reference_in c.scope any_iri))))
  closes WantDot c = plain strict form Dot (leaf (codes ".")) refl (at_end strict form c)
  closes (AfterLabel g) c = label_closes strict form c g
  closes GraphWord c = named_by strict form None None refl (brace_closes strict form c (named (reference_in c.scope any_iri)))
  closes (GraphBracket n) c = plain strict form CloseBracket (leaf (codes "]")) refl (brace_closes strict form c (node (Anon n)))
  closes (WantBrace g) c = brace_closes strict form c g
  closes Inside c = plain strict form CloseBrace (leaf (codes "}")) refl (at_end strict form (in_default c.scope))
  closes (Want p) c = object_closes strict form c p (close_place p) (place_closes strict form p c)
  closes (After p) c = place_closes strict form p c
  closes (AfterText w p) c = text_closes strict form c w p (close_place p) (place_closes strict form p c)
  closes (WantType w p) c = named_by strict form None (quad_at c p (typed_literal w (reference_in c.scope any_iri))) refl (place_closes strict form p c)
  closes (PropertyListStart n u) c = plain strict form CloseBracket (leaf (codes "]")) refl (up_node u c (sized (node (Anon n))))
  closes (CollectionStart u) c = plain strict form CloseParen (leaf (codes ")")) refl (up_list strict form u c (unsized (Some nil)))
  closes (WantVerb s a) c =
      named_by strict form None None refl
      (object_closes strict form c (Listed s (spelt (reference_in c.scope any_iri)) a) (close_around a)
      (place_closes strict form (Listed s (spelt (reference_in c.scope any_iri)) a) c))
  closes (AfterSemicolon s a) c = around_closes strict form a c s
  closes (AfterPropertyList s v) c = brackets_closes strict form v c s
