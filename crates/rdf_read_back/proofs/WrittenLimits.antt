-- What is written for a document is read to its end, with limits that are a little higher.
use Rattle.rdf_read_back.proofs.Prelude.{◌≡◌, ℕ, ◌+◌, ◌*◌, ◌^◌, ◌≤◌, true, List, [], ◌∷◌, ◌++◌, length, Option, Some, None, option_map, inl, inr, ⊎_elim, refl, sym, ap, ◌∙◌, subst, append_assoc, arith, lit≤, map, IfSome, AllByRecursion, Tail, Lang, Typed, Blank, Term, Resource, Literal, Quad, IsSubject, IsTail, IsTerm, IsGraph, Token, IsToken, most_bytes, unmarked, PassesNone, reading_of, IsDocumentOf, IsWhole, byte_len, InForce, Escapes, Plain, Tagged, Writable, subject_text, rename, string_width, iri_width, SubjectWithin, TailWithin, TermWithin, GraphWithin, IrisWithin, TailShort, TermShort, GraphShort, TokensWithin, DocForm, Use, itself, stands, binds, Event, Took, Gave, Bound, document_events, IsLong, Passes, InTree, language, HasIris, DocumentIsWritable, WrittenDocumentIsRead}
use Rattle.std.proofs.lemmas.Bool.{cases_lt}
use Rattle.rdf_terms.specs.declared.kind.Dialect.TheVariants.{Turtle as turtle}
use Rattle.rdf_terms.specs.Terms as term
use Rattle.rdf_tokens.specs.Laws.{StandsIn}
use Rattle.rdf_tokens.proofs.LawLemmas.{have_shapes, places}
use Rattle.rdf_tokens.proofs.LimitLemmas.{no_longer}
use Rattle.rdf_lines.specs.NodeNames.{CanWriteSubject, CanWriteTerm, CanWriteGraph, rename_subject, rename_term}
use Rattle.rdf_lines.proofs.FormReadBack.{form_text_read}
use Rattle.rdf_lines.proofs.WellFormed.{each}
use Rattle.rdf_trig.specs.Trees.{Document}
use Rattle.rdf_trig.specs.Events.{tokens}
use Rattle.rdf_trig.proofs.trees.Senses.{tokens_after}
use Rattle.rdf_read_back.proofs.WrittenParts.{Room, FitSubject, FitTail, FitTerm, GoodToken, Within}
use Rattle.rdf_read_back.proofs.WrittenSteps.{AllWithin, AllFit, tree_fits}

module _ (r : Room) where
  -- What fits is well formed, and within the limits as it is written.
  subject_formed : (s : term.Subject) → FitSubject r s → IsSubject s × CanWriteSubject Tagged s
  subject_formed (term.Iri i) f = (f.0, tt)
  subject_formed (Blank n) f = (f.0, tt)

  tail_formed : (t : Tail) → FitTail r t → IsTail t
  tail_formed (Lang t) f = f.0
  tail_formed (Typed i) f = f.0

  term_formed : (o : Term) → FitTerm r o → IsTerm o × CanWriteTerm Tagged o
  term_formed (Resource s) f = subject_formed s f
  term_formed (Literal w t) f = ((f.0.0, tail_formed t f.1), tt)

  graph_formed : (g : Option term.Subject) → IfSome g (FitSubject r) → IsGraph g × CanWriteGraph Tagged g
  graph_formed None f = (tt, tt)
  graph_formed (Some g) f = subject_formed g f

  writable : (qs : List Quad) → AllFit r qs → Writable Tagged qs
  writable [] f = tt
  writable (q ∷ qs) f =
      let s = subject_formed q.subject f.0.0 in
      let o = term_formed q.object f.0.2 in
      let g = graph_formed q.graph f.0.3 in (
        (record { subject = s.0; predicate = f.0.1.0; object = o.0; graph = g.0 }, record { subject = s.1; object = o.1; graph = g.1 }),
        writable qs f.1,
      )

  subject_within : (s : term.Subject) → FitSubject r s → SubjectWithin r.iri_then s × (length (subject_text r.form (rename_subject Tagged s)) ≤ r.most_then)
  subject_within (term.Iri i) f = (f.1, f.2)
  subject_within (Blank n) f = (tt, f.1)

  tail_within : (t : Tail) → FitTail r t → TailWithin r.iri_then t × TailShort r.form r.most_then t
  tail_within (Lang t) f = (tt, f.1)
  tail_within (Typed i) f = (f.1, f.2)

  term_within : (o : Term) → FitTerm r o → TermWithin r.iri_then o × TermShort r.form r.most_then (rename_term Tagged o)
  term_within (Resource s) f = subject_within s f
  term_within (Literal w t) f = let x = tail_within t f.1 in (x.0, (f.0.1, x.1))

  graph_within : (g : Option term.Subject) → IfSome g (FitSubject r) →
      GraphWithin r.iri_then g × GraphShort r.form r.most_then (option_map (rename_subject Tagged) g)
  graph_within None f = (tt, tt)
  graph_within (Some g) f = subject_within g f

  iris : (qs : List Quad) → AllFit r qs → AllByRecursion (IrisWithin r.iri_then) qs
  iris [] f = tt
  iris (q ∷ qs) f = (
    record {
      subject = (subject_within q.subject f.0.0).0;
      predicate = f.0.1.1;
      object = (term_within q.object f.0.2).0;
      graph = (graph_within q.graph f.0.3).0;
    },
    iris qs f.1,
  )

  shorts : (qs : List Quad) → AllFit r qs → AllByRecursion (TokensWithin r.form r.most_then) (map (rename Tagged) qs)
  shorts [] f = tt
  shorts (q ∷ qs) f = (
    record {
      subject = (subject_within q.subject f.0.0).1;
      predicate = f.0.1.2;
      object = (term_within q.object f.0.2).1;
      graph = (graph_within q.graph f.0.3).1;
    },
    shorts qs f.1,
  )

  -- what is known of all tokens of some bytes
  all_good : (bytes : List ℕ) → length bytes ≤ most_bytes → (ts : List Token) → AllByRecursion (λ t. length t.text ≤ r.most) ts →
      AllByRecursion (IsToken turtle) ts →
      AllByRecursion (StandsIn bytes) ts → AllByRecursion (GoodToken r) ts
  all_good bytes l [] x y z = tt
  all_good bytes l (t ∷ ts) x y z =
      let far : most_bytes + 1 ≤ 2 ^ 64 = lit≤ tt in
      let at = z.0.place.within in
      ((x.0, y.0, omega arith), all_good bytes l ts x.1 y.1 z.1)

  -- the quads of a document
  document_fits : (form : DocForm) (start : InForce) (bytes : List ℕ) (qs : List Quad) → r.most ≡ start.limits.token → HasIris start →
      length bytes ≤ most_bytes →
      (d : IsDocumentOf (language form start) bytes qs) → AllWithin r (document_events start d.2.0) → AllFit r qs
  document_fits form start bytes qs m h l d w =
      let limit = start.limits.token in
      let ts = (reading_of (language form start) bytes true).tokens in
      let x = subst (λ k. AllByRecursion (λ t. length t.text ≤ k) ts) (sym m) (each (λ t. length t.text ≤ limit) ts (no_longer turtle limit bytes true)) in
      let y = each (IsToken turtle) ts (have_shapes turtle limit bytes true) in
      let z = each (StandsIn bytes) ts (places turtle limit bytes true).0 in
      let g = all_good bytes l ts x y z in
      let tree = d.2.0 in
      subst (AllFit r) (ap unmarked d.2.3 ∙ d.3) (tree_fits r form start tree h (subst (AllByRecursion (GoodToken r)) d.2.1 g) w)

-- The bytes of all IRIs that tokens stand for: none of them has more.
abbrev all_bytes : List Event → ℕ
all_bytes [] = 0
all_bytes (Took t (stands (Some i)) ∷ es) = byte_len i + all_bytes es
all_bytes (Took t u ∷ es) = all_bytes es
all_bytes (Gave q ∷ es) = all_bytes es

-- so all are within a limit that is as high
bytes_within : (r : Room) (es : List Event) → all_bytes es ≤ r.iri → AllWithin r es
bytes_within r [] l = tt
bytes_within r (Took t itself ∷ es) l = (tt, bytes_within r es l)
bytes_within r (Took t (stands None) ∷ es) l = (tt, bytes_within r es l)
bytes_within r (Took t (stands (Some i)) ∷ es) l = (omega arith, bytes_within r es (omega arith))
bytes_within r (Took t (binds full i) ∷ es) l = (tt, bytes_within r es l)
bytes_within r (Gave q ∷ es) l = bytes_within r es l

-- limits that suffice for IRIs of so many bytes
abbrev ample : ℕ → ℕ → Room
ample most iri = record {
  form = Plain;
  most = most;
  iri = iri;
  most_then = 2 * most + iri + 64;
  iri_then = iri + 64;
  twice = omega arith;
  brackets = omega arith;
  least = omega arith;
  higher = omega arith;
  least_iri = omega arith;
}

-- the law that each document's quads can be written
pub document_writable : DocumentIsWritable
document_writable form start bytes qs h l d =
    let es = document_events start d.2.0 in
    let r = ample start.limits.token (all_bytes es) in
    writable r qs (document_fits r form start bytes qs refl h l d (bytes_within r es (omega arith)))

-- In a document of which no token passes a limit, each IRI that one stands for is within it.
module _ (r : Room) (form : DocForm) (start : InForce) (same : r.iri ≡ start.limits.iri) (d : Document form) (bound : Bound (document_events start d))
    (kept : PassesNone (Passes form start) (tokens (document_events start d))) where
  use_within : (u : Use) → (IsLong start.limits u → ⊥) → Within r u
  use_within itself n = tt
  use_within (stands None) n = tt
  use_within (stands (Some i)) n = ⊎_elim (λ x. absurd (n x)) (λ x. omega (arith, x, same)) (cases_lt start.limits.iri (byte_len i))
  use_within (binds full i) n = tt

  kept_within : (front es : List Event) → document_events start d ≡ front ++ es → AllWithin r es
  kept_within front [] e = tt
  kept_within front (Gave q ∷ es) e = kept_within (front ++ Gave q ∷ []) es (e ∙ sym (append_assoc front (Gave q ∷ []) es))
  kept_within front (Took t u ∷ es) e =
      let place : InTree form start (tokens front) t u = record { tree = d; front = front; rest = es; events = e; read = refl } in
      let told : tokens (document_events start d) ≡ tokens front ++ t ∷ tokens es = ap tokens e ∙ tokens_after front t u es in (
        use_within u (λ x. kept (tokens front) (tokens es) t told (u, record { place = place; bound = bound }, inr (inl x))),
        kept_within (front ++ Took t u ∷ []) es (e ∙ sym (append_assoc front (Took t u ∷ []) es)),
      )

-- the quads of a document, and the limits that suffice
pub record Fitting (x : Escapes) (qs : List Quad) (token_then iri_then : ℕ) : Type 0 where
  pub writable : Writable Tagged qs
  pub least : 2 ≤ token_then
  pub shorts : AllByRecursion (TokensWithin x token_then) (map (rename Tagged) qs)
  pub iris : AllByRecursion (IrisWithin iri_then) qs

pub fitting : (x : Escapes) (form : DocForm) (start : InForce) (bytes : List ℕ) (qs : List Quad) → HasIris start → length bytes ≤ most_bytes →
    IsDocumentOf (language form start) bytes qs → IsWhole (language form start) bytes → (token_then iri_then : ℕ) →
    string_width x * start.limits.token ≤ token_then → iri_width x * start.limits.iri + 2 ≤ token_then → 64 ≤ token_then →
    start.limits.iri ≤ iri_then → 64 ≤ iri_then → Fitting x qs token_then iri_then
fitting x form start bytes qs h l d w token_then iri_then a b c e f =
    let r : Room = record {
      form = x;
      most = start.limits.token;
      iri = start.limits.iri;
      most_then = token_then;
      iri_then = iri_then;
      twice = a;
      brackets = b;
      least = c;
      higher = e;
      least_iri = f;
    } in
    let tree = d.2.0 in
    let kept = subst (PassesNone (Passes form start)) d.2.1 w.front.kept in
    let within = kept_within r form start refl tree d.2.2 kept [] (document_events start tree) refl in
    let fits = document_fits r form start bytes qs refl h l d within in
    record { writable = writable r qs fits; least = omega arith; shorts = shorts r qs fits; iris = iris r qs fits }

-- the law that what was written is read to its end
pub document_read_back : WrittenDocumentIsRead
document_read_back x p form start bytes qs word h l d w token_then iri_then a b c e f =
    let fits = fitting x form start bytes qs h l d w token_then iri_then a b c e f in
    form_text_read (record { style = Tagged; escapes = x; prefix = p }) qs token_then iri_then word fits.writable fits.least fits.shorts fits.iris
