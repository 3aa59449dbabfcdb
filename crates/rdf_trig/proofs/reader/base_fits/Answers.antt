use Rattle.rdf_trig.proofs.code.StartingBase.{fits_yes, fits_no}
use Rattle.rdf_trig.proofs.reader.base_fits.Goals as goal

pub returns-in-Some-clause-yes : goal.returns-in-Some-clause-yes
returns-in-Some-clause-yes g c = fits_yes c.args.base.now _ c.as_str.result.now c.iri.result c.args.limits c.in-Some.is
    c.as_str.ensures.value c.as_str.utf8 c.iri.ensures

pub returns-in-Some-clause-no : goal.returns-in-Some-clause-no
returns-in-Some-clause-no g c =
    fits_no c.args.base.now _ c.as_str.result.now c.iri.result c.args.limits c.in-Some.is c.as_str.ensures.value c.as_str.utf8 c.iri.ensures
