-- What the answers of the machine say: a token is accepted where nothing refuses it, and refused for its reason.
use Rattle.rdf_trig.proofs.Prelude.{◌≡◌, Bool, true, false, cond, List, [], ◌∷◌, ◌++◌, ◌&&◌, Option, Some, None, refl, sym, ap, ◌∙◌, append_assoc, nat_le, Sizes, Kind, Quad, Unexpected, TooDeep, NoBase, IriTooLong, TooManyBindings, Token, leaf_of, DocForm, Setting, Use, itself, stands, binds, Reply, No, Go, waiting, kept, Answer, refuses, accepts, unnamed, too_long, by_use, deepens, answer, accept, Run, ran, refused, with_quads, accept_all, depth}
use Rattle.rdf_trig.specs.Machine.{Mode, step}
use Rattle.rdf_trig.specs.Machine.{State, go}
use Rattle.rdf_trig.proofs.machine.ClosingTokens.{has_iri}
use Rattle.rdf_trig.proofs.machine.ViableTokens.{stand, reach, on_reply, if_true}
use Rattle.rdf_trig.proofs.machine.DueQuads.{emits, on_emits}

-- a test with a known outcome, one side of which cannot be it, took the other
second : {T : Type 0} (b : Bool) (x y z : T) → cond b x y ≡ z → (x ≡ z → ⊥) → (b ≡ false) × (y ≡ z)
second true x y z e n = absurd (n e)
second false x y z e n = (refl, e)

-- the token's IRI is there and within its limit, and a binding has room
abbrev pub Fits : Sizes → Use → Type 0
Fits sizes itself = Unit {0}
Fits sizes (stands None) = ⊥
Fits sizes (stands (Some i)) = too_long sizes i ≡ false
Fits sizes (binds full None) = ⊥
Fits sizes (binds full (Some i)) = (too_long sizes i ≡ false) × (full ≡ false)

-- what passes no limit has an IRI
pub fits_iri : (sizes : Sizes) (u : Use) → Fits sizes u → has_iri u ≡ true
fits_iri sizes itself f = refl
fits_iri sizes (stands None) f = absurd f
fits_iri sizes (stands (Some i)) f = refl
fits_iri sizes (binds full None) f = absurd f
fits_iri sizes (binds full (Some i)) f = refl

-- the state after a reply
abbrev pub moved : Option Quad → Option Quad → Setting → Mode → State
moved early now c m = record { setting = c; mode = m; ready = kept early (kept now []) }

-- a token was accepted: no limit was passed, and these quads are given out
pub record Accepted (sizes : Sizes) (s : State) (k : Kind) (w : Option Quad) (r : Reply) (qs : List Quad) (n : State) : Type 0 where
  pub sense : Use
  pub early : Option Quad
  pub now : Option Quad
  pub setting : Setting
  pub mode : Mode
  pub reply : r ≡ Go sense early now setting mode
  pub shallow : (deepens k && nat_le sizes.depth (depth s.mode)) ≡ false
  pub fits : Fits sizes sense
  pub given : qs ≡ s.ready ++ kept w []
  pub state : n ≡ moved early now setting mode

-- an accepted token stands for something that is allowed
fitted : (sizes : Sizes) (k : Kind) (u : Use) (a : Answer) (qs : List Quad) (n : State) → by_use sizes k u a ≡ accepts qs n → Fits sizes u × (a ≡ accepts qs n)
fitted sizes k itself a qs n e = (tt, e)
fitted sizes k (stands None) a qs n e = absurd (let z : refuses (unnamed k) ≡ accepts qs n = e in cc)
fitted sizes k (stands (Some i)) a qs n e = second (too_long sizes i) (refuses IriTooLong) a (accepts qs n) e (λ z. cc)
fitted sizes k (binds full None) a qs n e = absurd (let z : refuses NoBase ≡ accepts qs n = e in cc)
fitted sizes k (binds full (Some i)) a qs n e =
    let x = second (too_long sizes i) (refuses IriTooLong) (cond full (refuses TooManyBindings) a) (accepts qs n) e (λ z. cc) in
    let y = second full (refuses TooManyBindings) a (accepts qs n) x.1 (λ z. cc) in
    ((x.0, y.0), y.1)

-- an answer that accepts has all these parts
pub accepted : (sizes : Sizes) (s : State) (k : Kind) (w : Option Quad) (r : Reply) (qs : List Quad) (n : State) → answer sizes s k w r ≡ accepts qs n →
    Accepted sizes s k w r qs n
accepted sizes s k w No qs n e = absurd (let z : refuses Unexpected ≡ accepts qs n = e in cc)
accepted sizes s k w (Go u early now c m) qs n e =
    let a : Answer = accepts (s.ready ++ kept w []) (moved early now c m) in
    let d = second (deepens k && nat_le sizes.depth (depth s.mode)) (refuses TooDeep) (by_use sizes k u a) (accepts qs n) e (λ z. cc) in
    let f = fitted sizes k u a qs n d.1 in
    let same : accepts (s.ready ++ kept w []) (moved early now c m) ≡ accepts qs n = f.1 in
    record { sense = u; early = early; now = now; setting = c; mode = m; reply = refl; shallow = d.0; fits = f.0; given = cc; state = cc }

-- a run that succeeds does so after its first token
pub first_ran : (qs : List Quad) (r : Run) (n : State) (all : List Quad) → with_quads qs r ≡ ran n all →
    (rest : List Quad) × (r ≡ ran n rest) × (all ≡ qs ++ rest)
first_ran qs (ran m rest) n all e = (rest, (let z : m ≡ n = cc in ap (λ x. ran x rest) z), cc)
first_ran qs (refused r) n all e = absurd (let z : refused r ≡ ran n all = e in cc)

-- what is known of a run that takes some tokens: where it stands, and what it gave out
pub record Ran (form : DocForm) (s : State) (ts : List Token) (n : State) (qs : List Quad) : Type 0 where
  pub reached : reach true form s.setting s.mode ts ≡ Some (stand n.setting n.mode)
  pub given : qs ≡ emits form s.setting s.mode s.ready ts

-- what is given out for one token and those after it, as the model of the run has it
emits_one : (form : DocForm) (w : Option Quad) (early now : Option Quad) (c : Setting) (m : Mode) (u : Use) (ready rest : List Quad) (ts : List Token) →
    rest ≡ emits form c m (kept early (kept now [])) ts → (ready ++ kept w []) ++ rest ≡ ready ++ on_emits w (Go u early now c m)
    (λ c' m' h. emits form c' m' h ts)
emits_one form None early now c m u ready rest ts e = append_assoc ready [] rest ∙ ap (λ x. ready ++ x) e
emits_one form (Some q) early now c m u ready rest ts e = append_assoc ready (q ∷ []) rest ∙ ap (λ x. ready ++ (q ∷ x)) e

-- a run of the machine is a walk through its grammar that gives out what the grammar does
pub ran_tokens : (form : DocForm) (ts : List Token) (s n : State) (qs : List Quad) → accept_all form s ts ≡ ran n qs → Ran form s ts n qs
ran_tokens form [] s n qs e =
    let z : ran s [] ≡ ran n qs = e in
    let same : s ≡ n = cc in
    record { reached = ap (λ x. Some (stand (State.setting x) (State.mode x))) same; given = cc }
ran_tokens form (t ∷ ts) s n qs e =
    by (λ m rest x. ran_tokens form ts m n rest x) (accept form s t.kind (leaf_of t)) refl e
  where
    by : ((m : State) (rest : List Quad) → accept_all form m ts ≡ ran n rest → Ran form m ts n rest) →
        (a : Answer) → accept form s t.kind (leaf_of t) ≡ a → go a (λ x. accept_all form x ts) ≡ ran n qs → Ran form s (t ∷ ts) n qs
    by ih (refuses r) h x = absurd (let z : refused r ≡ ran n qs = x in cc)
    by ih (accepts gs m) h x =
        let w = waiting s.setting s.mode t.kind (leaf_of t) in
        let r = step form s.setting s.mode t.kind (leaf_of t) in
        let a = accepted s.setting.scope.limits s t.kind w r gs m h in
        let f = first_ran gs (accept_all form m ts) n qs x in
        let i = ih m f.0 f.1 in
        let at_state = ap (λ y. reach true form (State.setting y) (State.mode y) ts) a.state in
        let emitted = ap (λ y. emits form (State.setting y) (State.mode y) (State.ready y) ts) a.state in
        record {
          reached =
              ap (λ y. on_reply true y (λ c' m'. reach true form c' m' ts)) a.reply ∙ ap (λ b. if_true b
              (reach true form a.setting a.mode ts)) (fits_iri s.setting.scope.limits a.sense a.fits) ∙ sym at_state ∙ i.reached;
          given =
              f.2 ∙ ap (λ y. y ++ f.0) a.given ∙ emits_one form w a.early a.now a.setting a.mode a.sense s.ready f.0 ts (i.given ∙ emitted)
              ∙ sym (ap (λ y. s.ready ++ on_emits w y (λ c' m' h'. emits form c' m' h' ts)) a.reply);
        }
