-- A quad is given exactly where the mode says so.
use Rattle.rdf_lines.proofs.Prelude.{◌≡◌, ℕ, Bool, true, false, List, refl, cond_both, Kind, IriRef, LabelNode, ShortString, LangTag, Carets, Dot, LineEnd, End, Subject, Term, Literal, Typed, xsd_string, LineForm, NQuads, Leaf, iri_of, Mode, Begin, AfterSubject, AfterPredicate, AfterString, AfterCarets, AfterObject, AfterGraph, AfterDot, Answer, goes, gives, refuses, iri_refused, absolute, object_then, accept, gave}

-- A quad is given exactly where the mode after it is that of a dot.
abbrev pub GaveRight : Answer → Type 0
GaveRight (goes m) = gave m ≡ false
GaveRight (gives q m) = gave m ≡ true
GaveRight (refuses r) = Unit

-- An IRI that is tested gives none.
absolute_gave : (test : List ℕ → Bool) (i : List ℕ) (m : Mode) → gave m ≡ false → GaveRight (absolute test i m)
absolute_gave test i m e = cond_both (test i) (goes m) (refuses (iri_refused i)) GaveRight (λ h. e) (λ h. tt)

-- After an object a quad is given at the dot alone.
object_gave : (test : List ℕ → Bool) (f : LineForm) (s : Subject) (p : List ℕ) (o : Term) (k : Kind) (l : Leaf) → GaveRight (object_then test f s p o k l)
object_gave test f s p o Dot l = refl
object_gave test NQuads s p o IriRef l = absolute_gave test (iri_of l) _ refl
object_gave test NQuads s p o LabelNode l = refl
object_gave test f s p o k l = tt

-- And so it is for each token.
pub accept_gave : (test : List ℕ → Bool) (f : LineForm) (m : Mode) (k : Kind) (l : Leaf) → GaveRight (accept test f m k l)
accept_gave test f Begin IriRef l = absolute_gave test (iri_of l) _ refl
accept_gave test f (AfterSubject s) IriRef l = absolute_gave test (iri_of l) _ refl
accept_gave test f (AfterPredicate s p) IriRef l = absolute_gave test (iri_of l) _ refl
accept_gave test f (AfterCarets s p w) IriRef l = absolute_gave test (iri_of l) _ refl
accept_gave test f Begin LabelNode l = refl
accept_gave test f Begin LineEnd l = refl
accept_gave test f Begin End l = refl
accept_gave test f (AfterPredicate s p) LabelNode l = refl
accept_gave test f (AfterPredicate s p) ShortString l = refl
accept_gave test f (AfterString s p w) LangTag l = refl
accept_gave test f (AfterString s p w) Carets l = refl
accept_gave test f (AfterString s p w) k l = object_gave test f s p (Literal w (Typed xsd_string)) k l
accept_gave test f (AfterObject s p o) k l = object_gave test f s p o k l
accept_gave test f (AfterGraph s p o g) Dot l = refl
accept_gave test f AfterDot LineEnd l = refl
accept_gave test f AfterDot End l = refl
accept_gave test f m k l = tt
