-- What the machine does under different tests of an IRI: why a token is refused, and what a narrower test accepts.
use Rattle.rdf_lines.proofs.Prelude.{◌≡◌, ◌≢◌, ℕ, ◌<◌, Bool, true, false, not, nat_lt, ◌&&◌, List, [], ◌∷◌, ◌++◌, ◌⊎◌, inl, inr, refl, sym, ap, ◌∙◌, subst, ⊎_elim, Some, None, drop, cases_Bool, cases_lt, lt-ltb, le-ltb, cond-true, cond-false, Kind, IriRef, LabelNode, ShortString, LangTag, Carets, Dot, LineEnd, End, Reason, Unexpected, RelativeIri, IriTooLong, Token, Viable, PassesNone, Subject, Term, Resource, Literal, Lang, Typed, Quad, xsd_string, has_scheme, byte_len, LineForm, NQuads, Leaf, leaf_of, iri_of, string_of, any_iri, documents, trees, Passes, Mode, Begin, AfterSubject, AfterPredicate, AfterString, AfterCarets, AfterObject, AfterGraph, AfterDot, Finished, Answer, goes, gives, refuses, is_taken, iri_refused, absolute, quad, object_then, accept, Run, ran, refused, with_quad, go_on, run}
use Rattle.rdf_terms.specs.Terms.{Iri}
use Rattle.rdf_lines.specs.Machine.{blank}
use Rattle.rdf_lines.proofs.Sound.{quad_first}
use Rattle.rdf_lines.proofs.Runs.{run_one, run_append, then, then_ran, with_quads}
use Rattle.rdf_lines.proofs.Viable.{viable_ran, not_viable}

-- an answer that no test made
abbrev pub NoTest : Kind → Answer → Type 0
NoTest IriRef x = x ≡ refuses Unexpected
NoTest k (refuses r) = r ≡ Unexpected
NoTest k x = Unit

-- a token that the grammar has not there is refused without a test of its IRI
unexpected_no_test : (k : Kind) → NoTest k (refuses Unexpected)
unexpected_no_test IriRef = refl
unexpected_no_test k = refl

-- Either the answer is the same under all tests, or the token is an IRI and it is accepted where it passes.
abbrev pub Tested : Kind → Leaf → ((List ℕ → Bool) → Answer) → Type 0
Tested k l a =
    ((x : Answer) × NoTest k x × ((test : List ℕ → Bool) → a test ≡ x))
    ⊎ ((k ≡ IriRef) × (m : Mode) × ((test : List ℕ → Bool) → a test ≡ absolute test (iri_of l) m))

-- after an object the answer depends on the test of a graph label alone
tested_object : (f : LineForm) (s : Subject) (p : List ℕ) (o : Term) (k : Kind) (l : Leaf) → Tested k l (λ test. object_then test f s p o k l)
tested_object f s p o Dot l = inl (gives (quad s p o None) AfterDot, tt, λ test. refl)
tested_object NQuads s p o IriRef l = inr (refl, AfterGraph s p o (Iri (iri_of l)), λ test. refl)
tested_object NQuads s p o LabelNode l = inl (goes (AfterGraph s p o (blank l)), tt, λ test. refl)
tested_object f s p o k l = inl (refuses Unexpected, unexpected_no_test k, λ test. refl)

-- in every mode the answer depends on the test of the token as an IRI alone
pub tested : (f : LineForm) (m : Mode) (k : Kind) (l : Leaf) → Tested k l (λ test. accept test f m k l)
tested f Begin IriRef l = inr (refl, AfterSubject (Iri (iri_of l)), λ test. refl)
tested f Begin LabelNode l = inl (goes (AfterSubject (blank l)), tt, λ test. refl)
tested f Begin LineEnd l = inl (goes Begin, tt, λ test. refl)
tested f Begin End l = inl (goes Finished, tt, λ test. refl)
tested f (AfterSubject s) IriRef l = inr (refl, AfterPredicate s (iri_of l), λ test. refl)
tested f (AfterPredicate s p) IriRef l = inr (refl, AfterObject s p (Resource (Iri (iri_of l))), λ test. refl)
tested f (AfterPredicate s p) LabelNode l = inl (goes (AfterObject s p (Resource (blank l))), tt, λ test. refl)
tested f (AfterPredicate s p) ShortString l = inl (goes (AfterString s p (string_of l)), tt, λ test. refl)
tested f (AfterString s p w) LangTag l = inl (goes (AfterObject s p (Literal w (Lang (drop 1 l.text)))), tt, λ test. refl)
tested f (AfterString s p w) Carets l = inl (goes (AfterCarets s p w), tt, λ test. refl)
tested f (AfterString s p w) k l = tested_object f s p (Literal w (Typed xsd_string)) k l
tested f (AfterCarets s p w) IriRef l = inr (refl, AfterObject s p (Literal w (Typed (iri_of l))), λ test. refl)
tested f (AfterObject s p o) k l = tested_object f s p o k l
tested f (AfterGraph s p o g) Dot l = inl (gives (quad s p o (Some g)) AfterDot, tt, λ test. refl)
tested f AfterDot LineEnd l = inl (goes Begin, tt, λ test. refl)
tested f AfterDot End l = inl (goes Finished, tt, λ test. refl)
tested f m k l = inl (refuses Unexpected, unexpected_no_test k, λ test. refl)

-- what an IRI does that passes the test, and one that does not
pub absolute_goes : (test : List ℕ → Bool) (i : List ℕ) (m : Mode) → test i ≡ true → absolute test i m ≡ goes m
absolute_goes test i m t = cond-true (test i) (goes m) (refuses (iri_refused i)) t

-- an IRI that fails the test is refused as relative or as too long
pub absolute_refuses : (test : List ℕ → Bool) (i : List ℕ) (m : Mode) → test i ≡ false → absolute test i m ≡ refuses (iri_refused i)
absolute_refuses test i m t = cond-false (test i) (goes m) (refuses (iri_refused i)) t

-- an IRI is never refused as unexpected
pub never_unexpected : (i : List ℕ) → iri_refused i ≡ Unexpected → ⊥
never_unexpected i e =
    ⊎_elim
    (λ h. let z : IriTooLong ≡ Unexpected = sym (cond-true (has_scheme i) IriTooLong RelativeIri h) ∙ e in cc)
    (λ h. let z : RelativeIri ≡ Unexpected = sym (cond-false (has_scheme i) IriTooLong RelativeIri h) ∙ e in cc)
    (cases_Bool (has_scheme i))

-- equal refusals have equal reasons
reason_same : {r s : Reason} → refuses r ≡ refuses s → r ≡ s
reason_same e = cc

-- what is unexpected is so under each test
unexpected_same : (k : Kind) (l : Leaf) (a : (List ℕ → Bool) → Answer) (test other : List ℕ → Bool) → Tested k l a →
    a test ≡ refuses Unexpected → a other ≡ refuses Unexpected
unexpected_same k l a test other (inl (x, h, same)) e = same other ∙ (sym (same test) ∙ e)
unexpected_same k l a test other (inr (h, m, same)) e =
    ⊎_elim
    (λ t. absurd (let z : goes m ≡ refuses Unexpected = sym (absolute_goes test (iri_of l) m t) ∙ (sym (same test) ∙ e) in cc))
    (λ t. absurd (never_unexpected (iri_of l) (reason_same (sym (absolute_refuses test (iri_of l) m t) ∙ (sym (same test) ∙ e)))))
    (cases_Bool (test (iri_of l)))

-- what is refused without a test is a syntax error
no_test_unexpected : (k : Kind) (r : Reason) → NoTest k (refuses r) → r ≡ Unexpected
no_test_unexpected IriRef r h = reason_same h
no_test_unexpected k r h = h

-- what is refused for another reason is an IRI that does not pass
pub record Fell (l : Leaf) (k : Kind) (a : (List ℕ → Bool) → Answer) (test : List ℕ → Bool) (r : Reason) : Type 0 where
  pub is_iri : k ≡ IriRef
  pub failed : test (iri_of l) ≡ false
  pub reason : iri_refused (iri_of l) ≡ r
  pub mode : Mode
  pub other : (other : List ℕ → Bool) → a other ≡ absolute other (iri_of l) mode

-- a refusal for another reason is that of an IRI that fails the test
fell : (k : Kind) (l : Leaf) (a : (List ℕ → Bool) → Answer) (test : List ℕ → Bool) (r : Reason) → Tested k l a → r ≢ Unexpected →
    a test ≡ refuses r → Fell l k a test r
fell k l a test r (inl (x, h, same)) n e = absurd (n (no_test_unexpected k r (subst (NoTest k) (sym (same test) ∙ e) h)))
fell k l a test r (inr (h, m, same)) n e =
    ⊎_elim
    (λ t. absurd (let z : goes m ≡ refuses r = sym (absolute_goes test (iri_of l) m t) ∙ (sym (same test) ∙ e) in cc))
    (λ t. record { is_iri = h; failed = t; reason = reason_same (sym (absolute_refuses test (iri_of l) m t) ∙ (sym (same test) ∙ e)); mode = m; other = same })
    (cases_Bool (test (iri_of l)))

-- A run under a test goes the same way under a wider one.
module _ (narrow wide : List ℕ → Bool) (wider : (i : List ℕ) → narrow i ≡ true → wide i ≡ true) where
  -- of one token: a test that passes more refuses nothing that went on
  wider_one : (k : Kind) (l : Leaf) (a : (List ℕ → Bool) → Answer) (more : (List ℕ → Bool) → Mode → Run) (n : Mode) (qs : List Quad) → Tested k l a →
      go_on (a narrow) (more narrow) ≡ ran n qs → go_on (a wide) (more narrow) ≡ ran n qs
  wider_one k l a more n qs (inl (x, h, same)) e = ap (λ y. go_on y (more narrow)) (same wide ∙ sym (same narrow)) ∙ e
  wider_one k l a more n qs (inr (h, m, same)) e =
      ⊎_elim
      (λ t. ap (λ y. go_on y (more narrow)) (same wide
      ∙ (absolute_goes wide (iri_of l) m (wider (iri_of l) t) ∙ sym (same narrow ∙ absolute_goes narrow (iri_of l) m t))) ∙ e)
      (λ t. absurd (let z : refused (iri_refused (iri_of l)) ≡ ran n qs =
      sym (ap (λ y. go_on y (more narrow)) (same narrow ∙ absolute_refuses narrow (iri_of l) m t)) ∙ e in cc))
      (cases_Bool (narrow (iri_of l)))

  -- so a run that goes on under one test goes on under one that passes more, to the same quads
  pub wider_run : (f : LineForm) (ts : List Token) (m n : Mode) (qs : List Quad) → run narrow f m ts ≡ ran n qs → run wide f m ts ≡ ran n qs
  wider_run f [] m n qs e = e
  wider_run f (t ∷ ts) m n qs e =
      let l : Leaf = leaf_of t in
      at (λ k rs x. wider_run f ts k n rs x) (accept wide f m t.kind l) qs
      (wider_one t.kind l (λ test. accept test f m t.kind l) (λ test k. run test f k ts) n qs (tested f m t.kind l) e)
    where
      at : ((k : Mode) (rs : List Quad) → run narrow f k ts ≡ ran n rs → run wide f k ts ≡ ran n rs) → (a : Answer) (qs : List Quad) →
          go_on a (λ k. run narrow f k ts) ≡ ran n qs → go_on a (λ k. run wide f k ts) ≡ ran n qs
      at h (goes k) qs z = h k qs z
      at h (gives q k) qs z = let r = quad_first q (run narrow f k ts) n qs z in ap (with_quad q) (h k r.0 r.1) ∙ ap (ran n) (sym r.2)
      at h (refuses r) qs z = absurd (let w : refused r ≡ ran n qs = z in cc)

-- A test that passes IRIs with a scheme alone, as the reader's.
taken_scheme : (n : ℕ) (i : List ℕ) → is_taken n i ≡ true → has_scheme i ≡ true
taken_scheme n i t = by (has_scheme i) t
  where
    by : (b : Bool) → (b && not (nat_lt n (byte_len i))) ≡ true → b ≡ true
    by true e = refl
    by false e = e

-- tokens that are taken with the limit are taken without it
pub in_documents : (n : ℕ) (f : LineForm) (ts : List Token) (m : Mode) (qs : List Quad) → run (is_taken n) f Begin ts ≡ ran m qs →
    run has_scheme f Begin ts ≡ ran m qs
in_documents n f ts m qs e = wider_run (is_taken n) has_scheme (taken_scheme n) f ts Begin m qs e

-- an absolute IRI that is not taken is over the limit
longer : (n : ℕ) (i : List ℕ) → has_scheme i ≡ true → is_taken n i ≡ false → n < byte_len i
longer n i s t =
    ⊎_elim
    (λ h. h)
    (λ h. absurd (let z : true ≡ false = sym (ap (λ b. has_scheme i && not b) (le-ltb n (byte_len i) h) ∙ ap (λ b. b && true) s) ∙ t in cc))
    (cases_lt n (byte_len i))

-- an IRI over the limit is not taken
not_taken : (n : ℕ) (i : List ℕ) → n < byte_len i → is_taken n i ≡ true → ⊥
not_taken n i l t = by (has_scheme i) (ap (λ b. has_scheme i && not b) (sym (lt-ltb n (byte_len i) l)) ∙ t)
  where
    by : (b : Bool) → (b && false) ≡ true → ⊥
    by true e = cc
    by false e = cc

-- tokens that are taken are those of some tree
pub in_trees : (n : ℕ) (f : LineForm) (ts : List Token) (m : Mode) (qs : List Quad) → run (is_taken n) f Begin ts ≡ ran m qs → run any_iri f Begin ts ≡ ran m qs
in_trees n f ts m qs e = wider_run (is_taken n) any_iri (λ i t. refl) f ts Begin m qs e

module _ (n : ℕ) (f : LineForm) (ts : List Token) (t : Token) (m : Mode) (qs : List Quad) (e : run (is_taken n) f Begin ts ≡ ran m qs) where
  abbrev pub one : (List ℕ → Bool) → Answer
  one test = accept test f m t.kind (leaf_of t)

  -- The first token that the machine refuses as unexpected begins no tree, so no document.
  pub unexpected : one (is_taken n) ≡ refuses Unexpected → Viable (trees f) (ts ++ t ∷ []) → ⊥
  unexpected a v =
      not_viable any_iri f ts t m qs Unexpected (in_trees n f ts m qs e)
      (unexpected_same t.kind (leaf_of t) one (is_taken n) any_iri (tested f m t.kind (leaf_of t)) a) v

  -- nor does it begin a document, whose IRIs have schemes
  pub unexpected_not_viable : one (is_taken n) ≡ refuses Unexpected → Viable (documents f) (ts ++ t ∷ []) → ⊥
  unexpected_not_viable a v =
      not_viable has_scheme f ts t m qs Unexpected (in_documents n f ts m qs e)
      (unexpected_same t.kind (leaf_of t) one (is_taken n) has_scheme (tested f m t.kind (leaf_of t)) a) v

  -- a refusal that is not of the kind is one of an IRI by the test
  fell_here : (r : Reason) → r ≢ Unexpected → one (is_taken n) ≡ refuses r → Fell (leaf_of t) t.kind one (is_taken n) r
  fell_here r x a = fell t.kind (leaf_of t) one (is_taken n) r (tested f m t.kind (leaf_of t)) x a

  -- the token passes another test
  taken_by : (test : List ℕ → Bool) (r : Reason) (x : Fell (leaf_of t) t.kind one (is_taken n) r) → test (iri_of (leaf_of t)) ≡ true →
      run test f Begin ts ≡ ran m qs →
      run test f Begin (ts ++ t ∷ []) ≡ ran x.mode (qs ++ [])
  taken_by test r x h s =
      run_one test f ts t Begin m qs s ∙ ap (λ y. with_quads qs (go_on y (λ k. ran k []))) (x.other test ∙ absolute_goes test (iri_of (leaf_of t)) x.mode h)

  -- so is a refusal as relative
  relative_fell : one (is_taken n) ≡ refuses RelativeIri → Fell (leaf_of t) t.kind one (is_taken n) RelativeIri
  relative_fell a = fell_here RelativeIri (λ z. cc) a

  -- whose IRI has no scheme, as the reason says
  no_scheme : one (is_taken n) ≡ refuses RelativeIri → has_scheme (iri_of (leaf_of t)) ≡ false
  no_scheme a =
      ⊎_elim
      (λ h. absurd (let z : IriTooLong ≡ RelativeIri = sym (cond-true (has_scheme (iri_of (leaf_of t))) IriTooLong RelativeIri h)
      ∙ (relative_fell a).reason in cc))
      (λ h. h)
      (cases_Bool (has_scheme (iri_of (leaf_of t))))

  -- A token that is refused as relative is an IRI without a scheme, and some tree has it there, but no document.
  pub relative : one (is_taken n) ≡ refuses RelativeIri → Viable (trees f) (ts ++ t ∷ []) × (t.kind ≡ IriRef) × (has_scheme (iri_of (leaf_of t)) ≡ false)
  relative a =
      let x = relative_fell a in
      (viable_ran any_iri f refl (ts ++ t ∷ []) x.mode (qs ++ []) (taken_by any_iri RelativeIri x refl (in_trees n f ts m qs e)), x.is_iri, no_scheme a)

  -- and no document goes on with it
  pub relative_not_viable : one (is_taken n) ≡ refuses RelativeIri → Viable (documents f) (ts ++ t ∷ []) → ⊥
  relative_not_viable a v =
      let x = relative_fell a in
      not_viable has_scheme f ts t m qs (iri_refused (iri_of (leaf_of t))) (in_documents n f ts m qs e)
      (x.other has_scheme ∙ absolute_refuses has_scheme (iri_of (leaf_of t)) x.mode (no_scheme a)) v

  -- so is a refusal as too long
  long_fell : one (is_taken n) ≡ refuses IriTooLong → Fell (leaf_of t) t.kind one (is_taken n) IriTooLong
  long_fell a = fell_here IriTooLong (λ z. cc) a

  -- whose IRI has a scheme, so the limit alone is in its way
  with_scheme : one (is_taken n) ≡ refuses IriTooLong → has_scheme (iri_of (leaf_of t)) ≡ true
  with_scheme a =
      ⊎_elim
      (λ h. h)
      (λ h. absurd (let z : RelativeIri ≡ IriTooLong = sym (cond-false (has_scheme (iri_of (leaf_of t))) IriTooLong RelativeIri h)
      ∙ (long_fell a).reason in cc))
      (cases_Bool (has_scheme (iri_of (leaf_of t))))

  -- A token that is refused as too long is an IRI that passes the limit, and some document has it there.
  pub too_long : one (is_taken n) ≡ refuses IriTooLong → Viable (documents f) (ts ++ t ∷ []) × Passes n ts t
  too_long a =
      let x = long_fell a in (
        viable_ran has_scheme f refl (ts ++ t ∷ []) x.mode (qs ++ []) (taken_by has_scheme IriTooLong x (with_scheme a) (in_documents n f ts m qs e)),
        (x.is_iri, longer n (iri_of (leaf_of t)) (with_scheme a) x.failed),
      )

-- Each IRI of a run passes the test.
one_taken : (k : Kind) (l : Leaf) (a : (List ℕ → Bool) → Answer) (test : List ℕ → Bool) (more : Mode → Run) (n : Mode) (rs qs : List Quad) →
    Tested k l a → k ≡ IriRef →
    with_quads rs (go_on (a test) more) ≡ ran n qs → test (iri_of l) ≡ true
one_taken k l a test more n rs qs (inl (x, h, same)) i e =
    let u : x ≡ refuses Unexpected = subst (λ j. NoTest j x) i h in
    absurd (let z : refused Unexpected ≡ ran n qs = sym (ap (λ y. with_quads rs (go_on y more)) (same test ∙ u)) ∙ e in cc)
one_taken k l a test more n rs qs (inr (h, m, same)) i e =
    ⊎_elim
    (λ t. t)
    (λ t. absurd (let z : refused (iri_refused (iri_of l)) ≡ ran n qs =
    sym (ap (λ y. with_quads rs (go_on y more)) (same test ∙ absolute_refuses test (iri_of l) m t)) ∙ e in cc))
    (cases_Bool (test (iri_of l)))

-- each IRI of tokens that are taken passes the test
all_taken : (test : List ℕ → Bool) (f : LineForm) (ts : List Token) (m k : Mode) (qs : List Quad) → run test f m ts ≡ ran k qs →
    (ahead after : List Token) (t : Token) →
    ts ≡ ahead ++ t ∷ after → t.kind ≡ IriRef → test (iri_of (leaf_of t)) ≡ true
all_taken test f ts m k qs e ahead after t s i =
    let whole : then (run test f m ahead) (λ x. run test f x (t ∷ after)) ≡ ran k qs =
    sym (run_append test f ahead (t ∷ after) m) ∙ (ap (run test f m) (sym s) ∙ e) in
    let front = then_ran (run test f m ahead) (λ x. run test f x (t ∷ after)) k qs whole in
    one_taken t.kind (leaf_of t) (λ test. accept test f front.0 t.kind (leaf_of t)) test (λ x. run test f x after) k front.1 qs
    (tested f front.0 t.kind (leaf_of t)) i
    (sym (ap (λ r. then r (λ x. run test f x (t ∷ after))) front.2) ∙ whole)

-- The tokens of a run pass no limit.
pub ran_none : (n : ℕ) (f : LineForm) (ts : List Token) (m k : Mode) (qs : List Quad) → run (is_taken n) f m ts ≡ ran k qs → PassesNone (Passes n) ts
ran_none n f ts m k qs e ahead after t s p = not_taken n (iri_of (leaf_of t)) p.1 (all_taken (is_taken n) f ts m k qs e ahead after t s p.0)
