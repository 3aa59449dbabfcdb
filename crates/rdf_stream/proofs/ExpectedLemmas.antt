-- What is handed out beside a fault, from how the reader stands after a refusal.
use Rattle.rdf_stream.proofs.Prelude.{◌≡◌, ℕ, Bool, true, false, List, ◌++◌, Option, IfErr, OnOk, Result, Ok, Err, refl, sym, subst, ⊎_elim, IsErrAnd, Reason, Quad, Place, place_of, RefusedIn, reading_of, Fault, EndsAtBlame, refused_in_more, Summary, Driven, FeedFails, FinishFails, HasRead, StandsAt, in_words, LineForm, Rules, line_words, tree_words, Chosen, StreamFault, Line, Tree, LineOut, Reports, HasGiven, Asks, AsksAt, AsksFor, Expects, RunExpects, Stands, StandsBefore, StandsFor, fault_by, JobRead, kind_of, conversion_by, language_of, tree_job, PutHalts, ReadStops}
use Rattle.rdf_terms.specs.declared.reason.Reason.TheVariants as reason
use Rattle.rdf_driver.specs.Words.{Words}
use Rattle.rdf_driver.proofs.FoundLemmas.{stands_more as stands_at_more}
use Rattle.rdf_lines.specs.Lines as lines
use Rattle.rdf_trig.specs.declared.form.DocForm.{DocForm}
use Rattle.rdf_trig.specs.Documents as documents
use Rattle.rdf_stream.specs.declared.expected.Details.{Details}
use Rattle.rdf_stream.specs.declared.fault.StreamFault.TheVariants as stream
use Rattle.rdf_stream.specs.Devices.{Reading}
use Rattle.rdf_stream.specs.Expected.{CouldStand, ExpectsAt, ExpectsFor, NoDetails, Trees, trees_by, trees_of}
use Rattle.rdf_stream.proofs.PiecesLemmas.{all_given}

module _ {G X : Type 0} (w : Words G X Quad) (x : X) (old : Driven G) (bytes : List ℕ) (quads : List Quad) (read : HasRead w old x bytes quads)
    (limit : ℕ) (same_limit : old.scanner.limit ≡ limit) {S : Type 0} (takes leaves : S → Quad → S → Type 0) (failed : S → Bool)
    (before after : S) (new : Driven G) (n k : ℕ) where
  abbrev fault : Reason → Fault
  fault why = record { reason = why; offset = n; line = k }

  -- after an error in a piece
  pub stands_in_piece : (piece : List ℕ) (why : Reason) → FeedFails w takes leaves failed why (record { offset = n; line = k }) old before piece new after →
      StandsFor w x limit (fault_by why (fault why)) (bytes ++ piece) false new
  stands_in_piece piece reason.Ended h = λ e. let z : reason.Ended ≡ reason.Unexpected = e in cc
  stands_in_piece piece reason.Memory h = tt
  stands_in_piece piece reason.Sink h = tt
  stands_in_piece piece reason.DocumentTooLong h = λ e. let z : reason.DocumentTooLong ≡ reason.Unexpected = e in cc
  stands_in_piece piece why h = λ e.
      let z = h.refused x bytes quads read in
      let at_place : Place = record { offset = n; line = k } in
      record {
        ahead = z.0;
        refused = subst (λ m. RefusedIn (in_words w x m) (reading_of (in_words w x m) (bytes ++ piece) false) reason.Unexpected at_place z.0) same_limit
            (subst (λ r. RefusedIn (in_words w x old.scanner.limit) (reading_of (in_words w x old.scanner.limit) (bytes ++ piece) false) r at_place z.0) e z.1);
        quads = quads ++ h.more;
        reached = h.stands e x bytes quads read;
        finds = subst (λ m. StandsAt (reading_of (in_words w x m) (bytes ++ piece) false) z.0 at_place new.found) same_limit (h.finds e x bytes quads read);
      }

  -- after an error at the end
  pub stands_at_end : (why : Reason) → FinishFails w takes leaves failed why (record { offset = n; line = k }) old before new after →
      StandsFor w x limit (fault_by why (fault why)) bytes true new
  stands_at_end reason.Ended h = λ e. let z : reason.Ended ≡ reason.Unexpected = e in cc
  stands_at_end reason.Memory h = tt
  stands_at_end reason.Sink h = tt
  stands_at_end why h = λ e.
      let z = h.refused x bytes quads read in
      let at_place : Place = record { offset = n; line = k } in
      record {
        ahead = z.0;
        refused = subst (λ m. RefusedIn (in_words w x m) (reading_of (in_words w x m) bytes true) reason.Unexpected at_place z.0) same_limit
            (subst (λ r. RefusedIn (in_words w x old.scanner.limit) (reading_of (in_words w x old.scanner.limit) bytes true) r at_place z.0) e z.1);
        quads = quads ++ h.more;
        reached = h.stands e x bytes quads read;
        finds = subst (λ m. StandsAt (reading_of (in_words w x m) bytes true) z.0 at_place new.found) same_limit (h.finds e x bytes quads read);
      }

module _ {G X : Type 0} (w : Words G X Quad) (x : X) (limit : ℕ) (ends : EndsAtBlame (in_words w x limit)) (now : Driven G) where
  -- more bytes after a refusal change nothing
  pub stands_more : (reported : StreamFault) (bytes more : List ℕ) → StandsFor w x limit reported bytes false now →
      StandsFor w x limit reported (bytes ++ more) false now
  stands_more (stream.Refused f) bytes more h = λ e.
      let z = h e in
      record {
        ahead = z.ahead;
        refused = refused_in_more (in_words w x limit) ends bytes more false reason.Unexpected (place_of f) z.ahead z.refused;
        quads = z.quads;
        reached = z.reached;
        finds = stands_at_more (in_words w x limit) bytes more false z.ahead (place_of f) now.found z.finds;
      }
  stands_more stream.Read bytes more h = tt
  stands_more stream.Write bytes more h = tt
  stands_more stream.Memory bytes more h = tt

  -- what the reader says then is what stands there and what could have stood there, by the bytes that were given and by all of them
  pub expects_for : (trees : X → Trees) (reported : StreamFault) (details : Details) (known : Option (List ℕ)) (left : Reading) (given : HasGiven known left) →
      AsksFor w trees now reported details → StandsFor w x limit reported given.bytes left.has_ended now →
      ExpectsFor reported (in_words w x limit) (trees x) known left details
  expects_for trees (stream.Refused f) details known left given a h = by f.reason a h
    where
      by : (why : Reason) → AsksAt w trees now why details → (why ≡ reason.Unexpected → StandsBefore w x limit given.bytes left.has_ended (place_of f) now) →
          ExpectsAt why (in_words w x limit) (trees x) known left (place_of f) details
      by reason.Unexpected b s =
          let z = s refl in
          let here : CouldStand (in_words w x limit) (trees x) given.bytes left.has_ended (place_of f) details = record {
            ahead = z.ahead;
            refused = z.refused;
            exact = λ kind. b.0 kind x z.ahead z.quads z.reached;
            finds = subst (StandsAt (reading_of (in_words w x limit) given.bytes left.has_ended) z.ahead (place_of f)) (sym b.1) z.finds;
          } in (
            all_given known left (λ bytes is_end. CouldStand (in_words w x limit) (trees x) bytes is_end (place_of f) details)
                (λ bytes more y. record {
                  ahead = y.ahead;
                  refused = refused_in_more (in_words w x limit) ends bytes more true
                      reason.Unexpected (place_of f) y.ahead y.refused;
                  exact = y.exact;
                  finds =
                      stands_at_more (in_words w x limit) bytes more true y.ahead (place_of f) details.found y.finds;
                }) given here,
            given,
            here,
          )
      by why b s = b
  expects_for trees stream.Read details known left given a h = a
  expects_for trees stream.Write details known left given a h = a
  expects_for trees stream.Memory details known left given a h = a

-- so is what is reported of an error once all that waited was handed over
pub stands_told : {G X D A : Type 0} (contents : D → Option (List ℕ)) (failed : D → Bool) (w : Words G X Quad) (x : X) (limit : ℕ)
    (f : Fault) (reported : StreamFault) (mid after : LineOut D A)
    (bytes : List ℕ) (e : Bool) (now : Driven G) → Reports contents failed f reported mid after →
    StandsFor w x limit (fault_by f.reason f) bytes e now → StandsFor w x limit reported bytes e now
stands_told contents failed w x limit f reported mid after bytes e now t h =
    ⊎_elim (λ p. subst (λ y. StandsFor w x limit y bytes e now) (sym p.0) tt) (λ p. subst (λ y. StandsFor w x limit y bytes e now) (sym p.0) h) t

-- text that is not put refuses no token
pub stands_unput : {G X D A : Type 0} (contents : D → Option (List ℕ)) (failed : D → Bool) (w : Words G X Quad) (x : X) (limit : ℕ)
    (reported : StreamFault) (lines : LineOut D A) (text : List ℕ)
    (after : LineOut D A) (bytes : List ℕ) (e : Bool) (now : Driven G) → PutHalts contents failed reported lines text after →
    StandsFor w x limit reported bytes e now
stands_unput contents failed w x limit stream.Write lines text after bytes e now h = tt
stands_unput contents failed w x limit stream.Memory lines text after bytes e now h = tt
stands_unput contents failed w x limit reported lines text after bytes e now h = absurd h

-- what a run hands out, from what the reader says that it has left
pub run_expects : {G X R : Type 0} (w : Words G X Quad) (trees : X → Trees) (begun : X → Type 0) (limit : ℕ) →
    ((x : X) → begun x → EndsAtBlame (in_words w x limit)) →
    (taken : R → List ℕ → R → Type 0) (halts : StreamFault → R → List ℕ → Bool → R → Type 0) (first now : R) (reader : Driven G) →
    ((f : StreamFault) (bytes : List ℕ) (e : Bool) → halts f first bytes e now → Stands w begun limit f bytes e reader) →
    (r : Result Summary StreamFault) (details : Details) (known : Option (List ℕ)) (left : Reading) →
    IfErr r (λ f. ReadStops taken halts f known left first now) →
    Asks w trees reader r details → RunExpects w trees begun limit r known left details
run_expects w trees begun limit ends taken halts first now reader stands (Ok s) details known left h a = a
run_expects w trees begun limit ends taken halts first now reader stands (Err f) details known left h a = λ x b.
    ⊎_elim
    (λ p.
    subst (λ t. ExpectsFor t (in_words w x limit) (trees x) known left details) (sym p.0) (subst (λ t. AsksFor w trees reader t details) p.0 a))
    (λ p. expects_for w x limit (ends x b) reader trees f details known left p.0 a (stands f p.0.bytes left.has_ended p.1 x b)) h

-- where there was no memory to begin with it is nothing
pub none_expected : {G X : Type 0} (w : Words G X Quad) (trees : X → Trees) (begun : X → Type 0) (limit : ℕ)
    (r : Result Summary StreamFault) (details : Details) (known : Option (List ℕ)) (left : Reading) →
    IsErrAnd r (λ f. f ≡ stream.Memory) → NoDetails details → RunExpects w trees begun limit r known left details
none_expected w trees begun limit (Ok s) details known left h none = none
none_expected w trees begun limit (Err f) details known left h none =
    λ x b. subst (λ t. ExpectsFor t (in_words w x limit) (trees x) known left details) (sym h) none

-- what a run over a line format hands out is what the job of it expects
pub lines_expect : (job : JobRead) (form : LineForm) → kind_of job.form ≡ Line form → (iri : ℕ) → iri ≡ job.limits.iri → (limit : ℕ) →
    limit ≡ job.limits.token →
    (begun : Rules → Type 0) → begun (record { form = form; iri = iri }) →
    (r : Result Summary StreamFault) (details : Details) (known : Option (List ℕ)) (left : Reading) →
    RunExpects line_words (λ x. lines.trees x.form) begun limit r known left details → Expects r job known left details
lines_expect job form k iri i limit l begun b (Ok s) details known left h = h
lines_expect job form k iri i limit l begun b (Err f) details known left h =
    subst (λ y. ExpectsFor f (conversion_by y job).language (trees_by y job) known left details) (sym k)
    (subst (λ m. ExpectsFor f (in_words line_words (record { form = form; iri = job.limits.iri }) m) (lines.trees form) known left details) l
    (subst (λ m. ExpectsFor f (in_words line_words (record { form = form; iri = m }) limit) (lines.trees form) known left details) i
    (h (record { form = form; iri = iri }) b)))

-- the same of Turtle and TriG
pub trees_expect : (job : JobRead) (form : DocForm) → kind_of job.form ≡ Tree form → (x : Chosen) → x ≡ tree_job form job → (limit : ℕ) →
    limit ≡ x.start.limits.token →
    (begun : Chosen → Type 0) → begun x → (r : Result Summary StreamFault) (details : Details) (known : Option (List ℕ)) (left : Reading) →
    RunExpects tree_words (λ y. documents.trees y.form y.start) begun limit r known left details → Expects r job known left details
trees_expect job form k x i limit l begun b (Ok s) details known left h = h
trees_expect job form k x i limit l begun b (Err f) details known left h =
    subst (λ y. ExpectsFor f (conversion_by y job).language (trees_by y job) known left details) (sym k)
    (subst (λ y. ExpectsFor f (in_words tree_words y y.start.limits.token) (documents.trees y.form y.start) known left details) i
    (subst (λ m. ExpectsFor f (in_words tree_words x m) (documents.trees x.form x.start) known left details) l (h x b)))

-- what it expects of a fault, and where there is none
pub expects_err : (r : Result Summary StreamFault) (job : JobRead) (known : Option (List ℕ)) (left : Reading) (details : Details) →
    Expects r job known left details →
    IfErr r (λ fault. ExpectsFor fault (language_of job) (trees_of job) known left details)
expects_err (Ok s) job known left details h = tt
expects_err (Err f) job known left details h = h

pub expects_none : (r : Result Summary StreamFault) (job : JobRead) (known : Option (List ℕ)) (left : Reading) (details : Details) →
    Expects r job known left details → OnOk r (NoDetails details)
expects_none (Ok s) job known left details h = h
expects_none (Err f) job known left details h = tt
