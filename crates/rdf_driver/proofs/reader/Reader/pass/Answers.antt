use Rattle.rdf_driver.proofs.Prelude.{◌≡◌, ◌++◌, ◌+◌, List, true, false, length, sym, ap, ◌∙◌, subst, arith, Unread, going, driven, Driven, HasRead, IsLive}
use Rattle.rdf_driver.specs.Passing.{can_pass, passed, LeadsBack}
use Rattle.rdf_driver.proofs.PromiseLemmas.{as_running}
use Rattle.rdf_driver.proofs.PassingLemmas.{can_pass-parts, pass_live, pass_reads, quads_room, tokens_room, bytes_room}
use Rattle.rdf_driver.proofs.reader.Reader.pass.Goals as goal

pub invariant_of-self : goal.invariant_of-self
invariant_of-self g c =
    let w = g.G.Grammar.words in
    let r = c.self.inside in
    let piece = c.args.bytes.now in
    let goes : r.done ≡ false = ap (λ (x : Driven g.row.G.Denot). x.done) c.self.view_is ∙ (can_pass-parts c.args.self.now (length piece) c.requires.idle).0 in
    let old = going r.progress in
    let same : old ≡ c.args.self.now =
    sym (as_running r.progress.scanner r.progress.grammar r.progress.so_far r.done r.found goes (c.self.invariant.1 goes).1) ∙ c.self.view_is in
    let can : can_pass old (length piece) ≡ true = subst (λ (x : Driven g.row.G.Denot). can_pass x (length piece) ≡ true) (sym same) c.requires.idle in
    let leads = subst (λ (x : Driven g.row.G.Denot). (more : List g.row.G-Item.Denot) × (c.args.quads ≡ length more)
    × LeadsBack w x piece more c.args.tokens) (sym same) c.requires.leads in
    let live = pass_live w old piece c.args.quads c.args.tokens can (c.self.invariant.1 goes).0 leads in (
      c.self.invariant.0,
      λ _. (
        subst (λ (v : Unread). IsLive w (driven v r.progress.grammar (passed old piece c.args.quads c.args.tokens).so_far))
            (sym c.pass.ensures) live,
        (c.self.invariant.1 goes).1,
      ),
    )

pub overflow_add-self : goal.overflow_add-self
overflow_add-self g c =
    let w = g.G.Grammar.words in
    let r = c.self.inside in
    let piece = c.args.bytes.now in
    let goes : r.done ≡ false = ap (λ (x : Driven g.row.G.Denot). x.done) c.self.view_is ∙ (can_pass-parts c.args.self.now (length piece) c.requires.idle).0 in
    let old = going r.progress in
    let same : old ≡ c.args.self.now =
    sym (as_running r.progress.scanner r.progress.grammar r.progress.so_far r.done r.found goes (c.self.invariant.1 goes).1) ∙ c.self.view_is in
    let can : can_pass old (length piece) ≡ true = subst (λ (x : Driven g.row.G.Denot). can_pass x (length piece) ≡ true) (sym same) c.requires.idle in
    let leads = subst (λ (x : Driven g.row.G.Denot). (more : List g.row.G-Item.Denot) × (c.args.quads ≡ length more)
    × LeadsBack w x piece more c.args.tokens) (sym same) c.requires.leads in
    let live = pass_live w old piece c.args.quads c.args.tokens can (c.self.invariant.1 goes).0 leads in
    omega (arith, quads_room w c.self.invariant.0 (passed old piece c.args.quads c.args.tokens) live)

pub overflow_add-self-2 : goal.overflow_add-self-2
overflow_add-self-2 g c =
    let w = g.G.Grammar.words in
    let r = c.self.inside in
    let piece = c.args.bytes.now in
    let goes : r.done ≡ false = ap (λ (x : Driven g.row.G.Denot). x.done) c.self.view_is ∙ (can_pass-parts c.args.self.now (length piece) c.requires.idle).0 in
    let old = going r.progress in
    let same : old ≡ c.args.self.now =
    sym (as_running r.progress.scanner r.progress.grammar r.progress.so_far r.done r.found goes (c.self.invariant.1 goes).1) ∙ c.self.view_is in
    let can : can_pass old (length piece) ≡ true = subst (λ (x : Driven g.row.G.Denot). can_pass x (length piece) ≡ true) (sym same) c.requires.idle in
    let leads = subst (λ (x : Driven g.row.G.Denot). (more : List g.row.G-Item.Denot) × (c.args.quads ≡ length more)
    × LeadsBack w x piece more c.args.tokens) (sym same) c.requires.leads in
    let live = pass_live w old piece c.args.quads c.args.tokens can (c.self.invariant.1 goes).0 leads in
    omega (arith, tokens_room w c.self.invariant.0 (passed old piece c.args.quads c.args.tokens) live)

pub overflow_add-self-3 : goal.overflow_add-self-3
overflow_add-self-3 g c =
    let w = g.G.Grammar.words in
    let r = c.self.inside in
    let piece = c.args.bytes.now in
    let goes : r.done ≡ false = ap (λ (x : Driven g.row.G.Denot). x.done) c.self.view_is ∙ (can_pass-parts c.args.self.now (length piece) c.requires.idle).0 in
    let old = going r.progress in
    let same : old ≡ c.args.self.now =
    sym (as_running r.progress.scanner r.progress.grammar r.progress.so_far r.done r.found goes (c.self.invariant.1 goes).1) ∙ c.self.view_is in
    let can : can_pass old (length piece) ≡ true = subst (λ (x : Driven g.row.G.Denot). can_pass x (length piece) ≡ true) (sym same) c.requires.idle in
    let leads = subst (λ (x : Driven g.row.G.Denot). (more : List g.row.G-Item.Denot) × (c.args.quads ≡ length more)
    × LeadsBack w x piece more c.args.tokens) (sym same) c.requires.leads in
    let live = pass_live w old piece c.args.quads c.args.tokens can (c.self.invariant.1 goes).0 leads in
    omega (arith, bytes_room w c.self.invariant.0 (passed old piece c.args.quads c.args.tokens) live)

pub returns-clause-read : goal.returns-clause-read
returns-clause-read g c = λ more n l x before given h.
    let w = g.G.Grammar.words in
    let r = c.self.inside in
    let piece = c.args.bytes.now in
    let after : Unread → Driven g.row.G.Denot =
    λ v. record {
      scanner = v;
      grammar = r.progress.grammar;
      so_far = record {
        quads = r.progress.so_far.quads + c.args.quads;
        tokens =
            r.progress.so_far.tokens + c.args.tokens;
        bytes = r.progress.so_far.bytes + length piece;
      };
      done = r.done;
      found = r.found;
    } in
    let same : after c.pass.new.self ≡ passed c.args.self.now piece c.args.quads c.args.tokens =
    ap after c.pass.ensures ∙ ap (λ (x : Driven g.row.G.Denot). passed x piece c.args.quads c.args.tokens) c.self.view_is in
    subst (λ (y : Driven g.row.G.Denot). HasRead w y x (before ++ piece) (given ++ more)) (sym same)
    (pass_reads w c.args.self.now piece c.args.quads c.args.tokens c.requires.idle more n l x before given h)
