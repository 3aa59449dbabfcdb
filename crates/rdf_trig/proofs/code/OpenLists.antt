-- What the open predicate lists hold is among the texts of a state.
use Rattle.rdf_trig.proofs.Prelude.{◌≡◌, ℕ, Option, ◌+◌, ◌≤◌, List, [], ◌∷◌, refl, sym, subst, arith, sum_by, sum_by-cons, DocForm, TriG, Frame, Outer, place_size, up_size, mode_size, level_of, place_at, up_from, up_in, text_in, outer_of, after_semicolon_at, mode_at, mode_in, iri_size, frame_bytes, state_bytes}
use Rattle.rdf_trig.specs.declared.form.DocForm.TheVariants.{Turtle}
use Rattle.rdf_trig.specs.declared.state.Around.TheVariants as around
use Rattle.rdf_trig.specs.declared.state.Container.{Container}
use Rattle.rdf_trig.specs.declared.state.Container.TheVariants as container
use Rattle.rdf_trig.specs.declared.state.Outer.TheVariants as outer
use Rattle.rdf_trig.specs.declared.state.Mode.{Mode}
use Rattle.rdf_trig.specs.declared.state.Mode.TheVariants as mode
use Rattle.rdf_trig.specs.declared.state.State.{State}
use Rattle.rdf_trig.specs.Machine as M
use Rattle.rdf_trig.specs.States.{place_of}

-- what is open holds what its place has beside what stands round it
list_within : (v : M.Level) (o : Container) (s : M.Topic) (p : Option (List ℕ)) (u : M.Up) → place_size (place_at v o s p u) ≤ up_size u + (s.size + iri_size p)
list_within v (container.List around.Statement) s p u = omega arith
list_within v (container.List around.PropertyList) s p u = omega arith
list_within v (container.Cells first cell) s p u = omega arith

-- so does a frame
place_within : {A : Type 0} (v : M.Level) (f : Frame A) (u : M.Up) → place_size (place_of v f u) ≤ up_size u + frame_bytes f
place_within v f u = list_within v f.container f.subject f.verb u

-- so do all frames
up_within : {A : Type 0} (v : M.Level) (u : M.Up) (fs : List (Frame A)) → up_size (up_from v u fs) ≤ up_size u + sum_by frame_bytes fs
up_within {A} v u [] = omega arith
up_within {A} v u (f ∷ fs) =
    let here = place_within v f u in
    let below = up_within v (M.At (place_of v f u)) fs in
    subst (λ n. up_size (up_from v (M.At (place_of v f u)) fs) ≤ up_size u + n) (sym (sum_by-cons (frame_bytes {A = A}) f fs)) (omega (arith, here, below))

-- outside of statements no predicate list is open
outer_none : (o : Outer) (n : ℕ) (p : List ℕ) (g : M.Topic) → mode_size (outer_of o n p g) ≡ 0
outer_none outer.Start n p g = refl
outer_none (outer.Inside b) n p g = refl
outer_none outer.Over n p g = refl
outer_none (outer.WantPrefix w) n p g = refl
outer_none (outer.WantPrefixIri w) n p g = refl
outer_none (outer.WantBaseIri w) n p g = refl
outer_none outer.WantDot n p g = refl
outer_none outer.GraphWord n p g = refl
outer_none outer.GraphBracket n p g = refl
outer_none outer.WantBrace n p g = refl

-- nor before a subject's verb
subject_none : (form : DocForm) (v : M.Level) (s : M.Topic) → mode_size (M.after_subject form v s) ≡ 0
subject_none Turtle M.Top s = refl
subject_none Turtle M.InBlock s = refl
subject_none TriG M.Top s = refl
subject_none TriG M.InBlock s = refl

-- after a `;` the verb is not counted
semicolon_within : (v : M.Level) (o : Container) (s : M.Topic) (p : Option (List ℕ)) (u : M.Up) →
    mode_size (after_semicolon_at (place_at v o s p u)) ≤ up_size u + (s.size + iri_size p)
semicolon_within v (container.List around.Statement) s p u = omega arith
semicolon_within v (container.List around.PropertyList) s p u = omega arith
semicolon_within v (container.Cells first cell) s p u = omega arith

-- in each mode at most the frame in hand is counted with those below it
mode_within : {A : Type 0} (form : DocForm) (r : State A) (m : Mode) → mode_size (mode_at form r m) ≤ up_size (up_in r) + frame_bytes r.frame
mode_within form r (mode.Outer o) = let z = outer_none o r.bracket (text_in r) r.graph in omega (arith, z)
mode_within form r mode.AfterSubject =
    let z = subject_none form (level_of r.level) r.frame.subject in subst (λ n. n ≤ up_size (up_in r) + frame_bytes r.frame) (sym z) (omega arith)
mode_within form r mode.Want = place_within (level_of r.level) r.frame (up_in r)
mode_within form r mode.After = place_within (level_of r.level) r.frame (up_in r)
mode_within form r mode.AfterText = place_within (level_of r.level) r.frame (up_in r)
mode_within form r mode.WantType = place_within (level_of r.level) r.frame (up_in r)
mode_within form r mode.PropertyListStart = omega arith
mode_within form r mode.CollectionStart = omega arith
mode_within form r mode.WantVerb = omega arith
mode_within form r mode.AfterSemicolon = semicolon_within (level_of r.level) r.frame.container r.frame.subject r.frame.verb (up_in r)
mode_within form r mode.AfterPropertyList = omega arith

-- What the machine's open predicate lists hold, a state that is its mode holds.
pub open_within : {A : Type 0} (form : DocForm) (r : State A) → mode_size (mode_in form r) ≤ state_bytes r
open_within form r =
    let here = mode_within form r r.mode in
    let below = up_within (level_of r.level) (M.Subject (level_of r.level)) r.frames.items in
    omega (arith, here, below)
