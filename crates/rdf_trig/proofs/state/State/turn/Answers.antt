-- A token in each mode, as it stands in the state.
use Rattle.rdf_trig.proofs.Prelude.{place_in}
use Rattle.rdf_trig.proofs.code.TurnsLemmas.{decides_at, subject_decides, subject_suits, semicolon_decides, semicolon_suits}
use Rattle.rdf_trig.proofs.state.State.turn.Goals as goal

pub returns-in-Want-clause-means : goal.returns-in-Want-clause-means
returns-in-Want-clause-means g c =
    decides_at c.args.form c.args.self.now c.args.kind c.want_object.result _ c.in-Want.is (c.want_object.ensures.means c.args.form)

pub returns-in-After-clause-means : goal.returns-in-After-clause-means
returns-in-After-clause-means g c =
    decides_at c.args.form c.args.self.now c.args.kind c.after_object.result _ c.in-After.is (c.after_object.ensures.means c.args.form)

pub returns-in-AfterText-clause-means : goal.returns-in-AfterText-clause-means
returns-in-AfterText-clause-means g c =
    decides_at c.args.form c.args.self.now c.args.kind c.after_text.result _ c.in-AfterText.is (c.after_text.ensures.means c.args.form)

pub returns-in-WantType-clause-means : goal.returns-in-WantType-clause-means
returns-in-WantType-clause-means g c =
    decides_at c.args.form c.args.self.now c.args.kind c.want_type.result _ c.in-WantType.is (c.want_type.ensures.means c.args.form)

pub returns-in-PropertyListStart-clause-means : goal.returns-in-PropertyListStart-clause-means
returns-in-PropertyListStart-clause-means g c = decides_at c.args.form c.args.self.now c.args.kind c.property_list_start.result _
    c.in-PropertyListStart.is (c.property_list_start.ensures.means c.args.form)

pub returns-in-CollectionStart-clause-means : goal.returns-in-CollectionStart-clause-means
returns-in-CollectionStart-clause-means g c = decides_at c.args.form c.args.self.now c.args.kind c.collection_start.result _
    c.in-CollectionStart.is (c.collection_start.ensures.means c.args.form)

pub returns-in-WantVerb-clause-means : goal.returns-in-WantVerb-clause-means
returns-in-WantVerb-clause-means g c =
    decides_at c.args.form c.args.self.now c.args.kind c.want_verb.result _ c.in-WantVerb.is (c.want_verb.ensures.means c.args.form)

pub returns-in-AfterPropertyList-clause-means : goal.returns-in-AfterPropertyList-clause-means
returns-in-AfterPropertyList-clause-means g c = decides_at c.args.form c.args.self.now c.args.kind c.after_property_list.result _
    c.in-AfterPropertyList.is (c.after_property_list.ensures.means c.args.form)

pub returns-in-AfterSubject-clause-means : goal.returns-in-AfterSubject-clause-means
returns-in-AfterSubject-clause-means g c =
    let self = c.args.self.now in
    decides_at c.args.form self c.args.kind c.after_subject.result _ c.in-AfterSubject.is
    (subject_decides c.args.form self self.level c.args.kind c.after_subject.result c.after_subject.ensures.means)

pub returns-in-AfterSubject-clause-suits : goal.returns-in-AfterSubject-clause-suits
returns-in-AfterSubject-clause-suits g c =
    let self = c.args.self.now in
    rw c.in-AfterSubject.is (subject_suits c.args.form self self.level c.args.kind c.after_subject.result c.after_subject.ensures.suits)

pub returns-in-AfterSemicolon-clause-means : goal.returns-in-AfterSemicolon-clause-means
returns-in-AfterSemicolon-clause-means g c =
    let self = c.args.self.now in
    decides_at c.args.form self c.args.kind c.after_semicolon.result _ c.in-AfterSemicolon.is
    (semicolon_decides c.args.form self (place_in self) c.args.kind c.after_semicolon.result (c.after_semicolon.ensures.means c.args.form))

pub returns-in-AfterSemicolon-clause-suits : goal.returns-in-AfterSemicolon-clause-suits
returns-in-AfterSemicolon-clause-suits g c =
    let self = c.args.self.now in
    rw c.in-AfterSemicolon.is (semicolon_suits (place_in self) c.args.kind c.after_semicolon.result c.after_semicolon.ensures.suits)
