-- The law of files of bindings: what is refused is no file of bindings within the limits.
use Rattle.std.specs.Prelude.{ℕ, List}
use Rattle.rdf_iri.specs.declared.fault.BindingReason.{BindingReason}
use Rattle.rdf_iri.specs.Limits.{Sizes}
use Rattle.rdf_iri.specs.Bindings.{Entry, IsFile, FailsAt}

-- A file of which a line fails is no file of bindings within the limits, so such a file is refused for want of memory alone.
abbrev pub FailingFilesAreNone : Type 0
FailingFilesAreNone = (reason : BindingReason) (sizes : Sizes) (bytes : List ℕ) (number : ℕ) (entries : List Entry) →
    FailsAt reason sizes bytes number → IsFile sizes bytes entries → ⊥
