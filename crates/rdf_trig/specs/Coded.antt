-- Places in a statement as lists: what is open, from the innermost on, and what stands round it.
use Rattle.std.proofs.Common.{◌≡◌, ◌⊎◌, inl, inr, ℕ, Bool, true, false, List, [], ◌∷◌, Option, None, refl, ap}
use Rattle.std.specs.Coded.{Coded, code_by, coded×, coded⊎, coded_ℕ, coded_bool, coded_list, coded_option}
use Rattle.rdf_terms.specs.Terms.{Node, Label, Anon, Cell}
use Rattle.rdf_terms.specs.Terms as term
use Rattle.rdf_trig.specs.Machine.{Topic, Spelt, unsized, spelt, Level, Top, InBlock, Place, Listed, InCollection, Around, Statement, InPropertyList, Up, Subject, At}

-- what a blank node is made of: the text of its label, or the offset of its '[', or that of its cell
abbrev NodeOf : Type 0
NodeOf = List ℕ ⊎ (ℕ ⊎ ℕ)

-- a blank node, taken apart
abbrev node_to : Node → NodeOf
node_to (Label x) = inl x
node_to (Anon n) = inr (inl n)
node_to (Cell n) = inr (inr n)

-- the blank node of such parts
abbrev node_from : NodeOf → Node
node_from (inl x) = Label x
node_from (inr (inl n)) = Anon n
node_from (inr (inr n)) = Cell n

-- nothing is lost: a node taken apart and put together is the same node
abbrev node_back : (n : Node) → node_from (node_to n) ≡ n
node_back (Label x) = refl
node_back (Anon n) = refl
node_back (Cell n) = refl

-- blank nodes are coded by these parts, as the value of a reader's model has to be
abbrev node_code : Coded Node
node_code = code_by NodeOf (coded⊎ (coded_list coded_ℕ) (coded⊎ coded_ℕ coded_ℕ)) node_to node_from node_back

-- a subject or graph label, taken apart: the text of its IRI, or its blank node
abbrev subject_to : term.Subject → List ℕ ⊎ Node
subject_to (term.Iri i) = inl i
subject_to (term.Blank n) = inr n

-- the subject of such parts
abbrev subject_from : List ℕ ⊎ Node → term.Subject
subject_from (inl i) = term.Iri i
subject_from (inr n) = term.Blank n

-- nothing of a subject is lost
abbrev subject_back : (s : term.Subject) → subject_from (subject_to s) ≡ s
subject_back (term.Iri i) = refl
subject_back (term.Blank n) = refl

-- subjects are coded by these parts
abbrev subject_code : Coded term.Subject
subject_code = code_by (List ℕ ⊎ Node) (coded⊎ (coded_list coded_ℕ) node_code) subject_to subject_from subject_back

-- a level as a truth value: true outside of a block
abbrev level_to : Level → Bool
level_to Top = true
level_to InBlock = false

-- the level of such a value
abbrev level_from : Bool → Level
level_from true = Top
level_from false = InBlock

-- nothing of a level is lost
abbrev level_back : (v : Level) → level_from (level_to v) ≡ v
level_back Top = refl
level_back InBlock = refl

-- the subject of a predicate list is coded by its term and its size
abbrev pub topic_code : Coded Topic
topic_code = code_by (Option term.Subject × ℕ) (coded× (coded_option subject_code) coded_ℕ) (λ s. (s.term, s.size))
    (λ x. record { term = x.0; size = x.1 }) (λ s. refl)

-- a verb by its IRI and its size
abbrev spelt_code : Coded Spelt
spelt_code = code_by (Option (List ℕ) × ℕ) (coded× (coded_option (coded_list coded_ℕ)) coded_ℕ) (λ p. (p.iri, p.size))
    (λ x. record { iri = x.0; size = x.1 }) (λ p. refl)

-- a predicate list by its subject and verb, or a collection by two cells
abbrev Open : Type 0
Open = (Topic × Spelt) ⊎ (ℕ × ℕ)

-- whether the outermost predicate list is that of a statement, its level, and what is open
abbrev Chain : Type 0
Chain = Bool × (Bool × List Open)

-- one more predicate list or collection stands innermost
abbrev with_open : Open → Chain → Chain
with_open o c = (c.0, (c.1.0, o ∷ c.1.1))

-- a place, what stands round it, and what a bracket there stands for, taken apart into what is open, the innermost first
abbrev mutual
  place_to : Place → Chain
  place_to (Listed s p a) = around_to s p a
  place_to (InCollection f n u) = with_open (inr (f, n)) (up_to u)

  around_to : Topic → Spelt → Around → Chain
  around_to s p (Statement v) = (true, (level_to v, inl (s, p) ∷ []))
  around_to s p (InPropertyList u) = with_open (inl (s, p)) (up_to u)

  up_to : Up → Chain
  up_to (Subject v) = (false, (level_to v, []))
  up_to (At p) = place_to p

-- what the innermost predicate list stands in: a statement where nothing else is open, and otherwise its '[' and ']'
abbrev around_by : List Open → Bool → Bool → Up → Around
around_by [] true v u = Statement (level_from v)
around_by [] false v u = InPropertyList u
around_by (o ∷ os) b v u = InPropertyList u

-- what a bracket stands for, put together from what is open round it, the innermost first
abbrev up_from : List Open → Bool → Bool → Up
up_from [] b v = Subject (level_from v)
up_from (inl x ∷ os) b v = At (Listed x.0 x.1 (around_by os b v (up_from os b v)))
up_from (inr x ∷ os) b v = At (InCollection x.0 x.1 (up_from os b v))

-- what a bracket stands for, by its chain
abbrev from : Chain → Up
from c = up_from c.1.1 c.0 c.1.0

-- what its innermost predicate list stands in
abbrev around_at : Chain → Around
around_at c = around_by c.1.1 c.0 c.1.0 (from c)

-- nothing of them is lost: put together from their chains they are the same
abbrev mutual
  place_back : (p : Place) → from (place_to p) ≡ At p
  place_back (Listed s p (Statement v)) = ap (λ x. At (Listed s p (Statement x))) (level_back v)
  place_back (Listed s p (InPropertyList u)) = ap (λ x. At (Listed s p x)) (in_brackets_back u)
  place_back (InCollection f n u) = ap (λ x. At (InCollection f n x)) (up_back u)

  in_brackets_back : (u : Up) → around_at (up_to u) ≡ InPropertyList u
  in_brackets_back (Subject v) = ap (λ x. InPropertyList (Subject x)) (level_back v)
  in_brackets_back (At (Listed s p (Statement v))) = ap InPropertyList (place_back (Listed s p (Statement v)))
  in_brackets_back (At (Listed s p (InPropertyList u))) = ap InPropertyList (place_back (Listed s p (InPropertyList u)))
  in_brackets_back (At (InCollection f n u)) = ap InPropertyList (place_back (InCollection f n u))

  up_back : (u : Up) → from (up_to u) ≡ u
  up_back (Subject v) = ap Subject (level_back v)
  up_back (At p) = place_back p

-- chains are coded by the codes of subjects, texts and offsets
abbrev chain_code : Coded Chain
chain_code = coded× coded_bool (coded× coded_bool (coded_list
    (coded⊎ (coded× topic_code spelt_code) (coded× coded_ℕ coded_ℕ))))

-- what a bracket stands for is coded by its chain
abbrev pub up_code : Coded Up
up_code = code_by Chain chain_code up_to from up_back

-- the object's place of which a chain is made; the chain of a subject has none, and any will do
abbrev place_of : Up → Place
place_of (Subject v) = Listed (unsized None) (spelt None) (Statement v)
place_of (At p) = p

-- places of objects are coded as what a bracket at them stands for
abbrev pub place_code : Coded Place
place_code = code_by Up up_code At place_of (λ p. refl)

-- what a predicate list stands in, from what a bracket at its object stands for; other values do not come
abbrev around_of : Up → Around
around_of (Subject v) = Statement v
around_of (At (Listed s p a)) = a
around_of (At (InCollection f n u)) = InPropertyList u

-- what a predicate list stands in is coded by a place in such a list
abbrev pub around_code : Coded Around
around_code = code_by Up up_code (λ a. At (Listed (unsized None) (spelt None) a)) around_of (λ a. refl)
