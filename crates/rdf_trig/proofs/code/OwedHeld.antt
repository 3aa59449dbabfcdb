-- A reader holds at least what it owes.
use Rattle.rdf_trig.proofs.Prelude.{◌≡◌, ◌+◌, ◌≤◌, ℕ, false, List, ap, sym, subst, length, arith, Quad, tokens_of, undecided, unread_bytes, bytes_held, HasRead, mode_size, Owed, OwedInAll, scope_size, Chosen, TrigRead, tree_words}
use Rattle.rdf_tokens.specs.Laws.{open_bytes}
use Rattle.rdf_tokens.proofs.OpenText.{open_text_pending}
use Rattle.rdf_trig.proofs.machine.OpenSizes.{held_is_open}
use Rattle.rdf_trig.proofs.code.ScopeSizes.{scopes_alike}

-- what is owed after the tokens so far is what the open predicate lists hold, and these the reader holds beside its scope
pub owed_held : (r : TrigRead) (n : ℕ) → n ≡ unread_bytes r.scanner + r.grammar.held → (x : Chosen) (bytes : List ℕ) (quads : List Quad) (size : ℕ) →
    HasRead tree_words r x bytes quads → Owed x.form x.start (tokens_of tree_words.dialect r.scanner.limit bytes false).tokens size →
    unread_bytes r.scanner + bytes_held r.grammar.state.setting.scope + size ≤ n
owed_held r n e x bytes quads size h o =
    let run = h.reached.2 in
    let owed = held_is_open (λ s. 0) x.form x.start (tokens_of tree_words.dialect r.scanner.limit bytes false).tokens run.machine quads size run.accepted o in
    let same = ap mode_size run.same.mode in
    let held = h.reached.3 in
    omega (arith, e, owed, same, held)

-- with the text that leaves the next token open, and the scope at the place, it is all held
pub all_owed_held : (r : TrigRead) (n : ℕ) → n ≡ unread_bytes r.scanner + r.grammar.held → (x : Chosen) (bytes : List ℕ) (quads : List Quad) (size : ℕ) →
    HasRead tree_words r x bytes quads → OwedInAll x.form x.start (tokens_of tree_words.dialect r.scanner.limit bytes false).tokens size →
    length (open_bytes tree_words.dialect r.scanner.limit bytes) + size ≤ n
all_owed_held r n e x bytes quads size h o =
    let run = h.reached.2 in
    let owed = held_is_open scope_size x.form x.start (tokens_of tree_words.dialect r.scanner.limit bytes false).tokens run.machine quads size run.accepted o in
    let same = ap mode_size run.same.mode in
    let scope = (scopes_alike run.machine.setting.scope r.grammar.state.setting.scope run.same.scope).1 in
    let held = h.reached.3 in
    let rest = subst (λ d. length (open_bytes d r.scanner.limit bytes) ≤ unread_bytes r.scanner) h.dialect
    (open_text_pending r.scanner bytes (tokens_of tree_words.dialect r.scanner.limit bytes false).tokens h.scanned h.more.running h.more.more
    (subst (λ d. (tokens_of d r.scanner.limit bytes false).outcome ≡ undecided) (sym h.dialect) h.undecided)) in
    omega (arith, e, owed, same, scope, held, rest)
