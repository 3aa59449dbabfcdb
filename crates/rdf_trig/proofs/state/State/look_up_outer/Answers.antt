-- Outside of statements a look-up is that of the machine: in the two modes that wait for an IRIREF it changes the scope.
use Rattle.rdf_trig.proofs.Prelude.{refl, sym, subst, leaf, text_in, spelling_of, LooksUp, NameFits}
use Rattle.rdf_trig.specs.Machine as M
use Rattle.rdf_trig.proofs.code.AgreeingScopes.{outer_looks, outer_none}
use Rattle.rdf_trig.proofs.code.TurnsLemmas.{on_ok, if_err}
use Rattle.rdf_trig.proofs.state.State.look_up_outer.Goals as goal

pub returns-in_default : goal.returns-in_default
returns-in_default g c =
    let self = c.args.self.now in
    let t = c.args.scope.now in
    let k = c.args.token.now.kind in
    let l = leaf c.args.token.now in
    let n = c.in_default in
    record {
      ok = outer_looks self c.args.outer t k l c.look_up_name.new.self.name c.look_up_name.result n.not-WantPrefix n.not-WantPrefixIri
          n.not-WantBaseIri c.look_up_name.ensures.ok;
      fits = c.look_up_name.ensures.fits;
      same = c.look_up_name.ensures.same;
      err = outer_none self c.args.outer t k l c.look_up_name.result n.not-WantPrefix n.not-WantPrefixIri n.not-WantBaseIri c.look_up_name.ensures.err;
    }

pub returns-in-WantPrefixIri-clause-ok : goal.returns-in-WantPrefixIri-clause-ok
returns-in-WantPrefixIri-clause-ok g c =
    let w = spelling_of c.in-WantPrefixIri.field-0 in
    let k = c.args.token.now.kind in
    let l = leaf c.args.token.now in
    rw c.in-WantPrefixIri.is (on_ok c.look_up_prefix.result _ _
    (λ h form s e. subst (λ i. LooksUp s (M.WantPrefixIri w (text_in c.args.self.now)) k l i c.look_up_prefix.new.scope) (sym c.requires.none) (h w s e))
    c.look_up_prefix.ensures.ok)

pub returns-in-WantPrefixIri-clause-err : goal.returns-in-WantPrefixIri-clause-err
returns-in-WantPrefixIri-clause-err g c =
    rw c.in-WantPrefixIri.is (if_err c.look_up_prefix.result _ _ (λ r h form s e. h (spelling_of c.in-WantPrefixIri.field-0) s e) c.look_up_prefix.ensures.err)

pub returns-in-WantBaseIri-clause-ok : goal.returns-in-WantBaseIri-clause-ok
returns-in-WantBaseIri-clause-ok g c =
    let w = spelling_of c.in-WantBaseIri.field-0 in
    let k = c.args.token.now.kind in
    let l = leaf c.args.token.now in
    rw c.in-WantBaseIri.is (on_ok c.look_up_base.result _ _
    (λ h form s e. subst (λ i. LooksUp s (M.WantBaseIri w) k l i c.look_up_base.new.scope) (sym c.requires.none) (h w s e))
    c.look_up_base.ensures.ok)

pub returns-in-WantBaseIri-clause-err : goal.returns-in-WantBaseIri-clause-err
returns-in-WantBaseIri-clause-err g c =
    rw c.in-WantBaseIri.is (if_err c.look_up_base.result _ _ (λ r h form s e. h (spelling_of c.in-WantBaseIri.field-0) s e) c.look_up_base.ensures.err)

pub look_up_prefix-requires-clause-token : goal.look_up_prefix-requires-clause-token
look_up_prefix-requires-clause-token g c = c.requires.token

pub look_up_prefix-requires-clause-short : goal.look_up_prefix-requires-clause-short
look_up_prefix-requires-clause-short g c = rw c.in-WantPrefixIri.is at c.requires.short

pub returns-in-WantPrefix-clause-ok : goal.returns-in-WantPrefix-clause-ok
returns-in-WantPrefix-clause-ok g c = rw c.in-WantPrefix.is (λ form s e. record { admitted = λ a. refl; name = tt; named = tt; scope = e })

pub returns-in-WantPrefix-clause-fits : goal.returns-in-WantPrefix-clause-fits
returns-in-WantPrefix-clause-fits g c = subst (NameFits c.args.scope.now.limits.iri) (sym c.requires.none) tt

pub returns-in-WantPrefix-clause-same : goal.returns-in-WantPrefix-clause-same
returns-in-WantPrefix-clause-same g c = refl

pub returns-in-WantPrefixIri-clause-fits : goal.returns-in-WantPrefixIri-clause-fits
returns-in-WantPrefixIri-clause-fits g c =
    on_ok c.look_up_prefix.result _ _ (λ h. subst (NameFits c.args.scope.now.limits.iri) (sym c.requires.none) tt) c.look_up_prefix.ensures.ok

pub returns-in-WantPrefixIri-clause-same : goal.returns-in-WantPrefixIri-clause-same
returns-in-WantPrefixIri-clause-same g c = refl

pub returns-in-WantBaseIri-clause-fits : goal.returns-in-WantBaseIri-clause-fits
returns-in-WantBaseIri-clause-fits g c =
    on_ok c.look_up_base.result _ _ (λ h. subst (NameFits c.args.scope.now.limits.iri) (sym c.requires.none) tt) c.look_up_base.ensures.ok

pub returns-in-WantBaseIri-clause-same : goal.returns-in-WantBaseIri-clause-same
returns-in-WantBaseIri-clause-same g c = refl
