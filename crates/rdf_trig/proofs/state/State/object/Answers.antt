use Rattle.rdf_trig.proofs.Prelude.{ap, length, arith, leaf, XsdBoolean}
use Rattle.rdf_trig.specs.declared.slots.SubjectKind.TheVariants as kind
use Rattle.rdf_trig.specs.declared.state.Ready.TheVariants as ready
use Rattle.rdf_trig.specs.declared.state.Mode.TheVariants as mode
use Rattle.rdf_trig.proofs.code.HoldingLemmas.{stands_fits, ready_fits, label_fits, empty_fits}
use Rattle.rdf_trig.proofs.code.SpelledLemmas.{true_length, false_length}
use Rattle.rdf_trig.proofs.state.State.object.Goals as goal

pub returns-in_ok-set_label-in-Label-clause-fits : goal.returns-in_ok-set_label-in-Label-clause-fits
returns-in_ok-set_label-in-Label-clause-fits g c = λ n t h f.
    let label = c.set_label.new.self in
    let made = c.hold_object-in-Label in
    let size = label_fits n label _ (leaf c.args.token.now).text c.in_ok-set_label-in-Label.ensures c.label_of.ensures.label t in
    ready_fits n c.args.self.now made.new.self label _ made.ensures.same made.ensures.text f size

pub returns-in_ok-known_literal-in-True-clause-fits : goal.returns-in_ok-known_literal-in-True-clause-fits
returns-in_ok-known_literal-in-True-clause-fits g c = λ n t h f.
    let self = c.args.self.now in
    let made = c.known_literal-in-True.new.self in
    let made_so = c.in_ok-known_literal-in-True.ensures in
    let z = made_so.fits in
    let none = made_so.object in
    let size = ap length c.true_word.ensures in
    let all = true_length c.args.token.now (rw c.in-True.is at c.requires.suits) c.requires.token in
    stands_fits n (record self { object = made.object; text = made.text }) made mode.After (ready.OfKnown XsdBoolean) _ made_so.ok
    (record { graph = f.graph; object = omega (arith, t, z, none, size, all); tail = f.tail; frame = f.frame; frames = f.frames; spares = f.spares })

pub returns-in_ok-known_literal-in-False-clause-fits : goal.returns-in_ok-known_literal-in-False-clause-fits
returns-in_ok-known_literal-in-False-clause-fits g c = λ n t h f.
    let self = c.args.self.now in
    let made = c.known_literal-in-False.new.self in
    let made_so = c.in_ok-known_literal-in-False.ensures in
    let z = made_so.fits in
    let none = made_so.object in
    let size = ap length c.false_word.ensures in
    let all = false_length c.args.token.now (rw c.in-False.is at c.requires.suits) c.requires.token in
    stands_fits n (record self { object = made.object; text = made.text }) made mode.After (ready.OfKnown XsdBoolean) _ made_so.ok
    (record { graph = f.graph; object = omega (arith, t, z, none, size, all); tail = f.tail; frame = f.frame; frames = f.frames; spares = f.spares })

pub returns-in_ok-open-in-Brackets-clause-fits : goal.returns-in_ok-open-in-Brackets-clause-fits
returns-in_ok-open-in-Brackets-clause-fits g c = λ n t h o.
    let node = c.set_anon.new.self in
    let made = c.hold_object-in-Brackets in
    let f =
    ready_fits n c.«open».new.self made.new.self node _ made.ensures.same made.ensures.text (c.in_ok-open-in-Brackets.ensures.fits n o)
    (empty_fits n node (kind.Anon c.args.token.now.offset) c.set_anon.ensures) in
    record { graph = f.graph; object = f.object; tail = f.tail; frame = f.frame; frames = f.frames; spares = f.spares }

pub returns-in_ok-open-in-Collection-clause-fits : goal.returns-in_ok-open-in-Collection-clause-fits
returns-in_ok-open-in-Collection-clause-fits g c = λ n t h o.
    stands_fits n c.open-in-Collection.new.self c.wait-in-Collection.new.self mode.CollectionStart ready.Nothing _ c.wait-in-Collection.ensures
    (c.in_ok-open-in-Collection.ensures.fits n o)
