-- The fault of a run, by the fault of its reader.
use Rattle.std.specs.Prelude.{◌≡◌, Bool, true}
use Rattle.rdf_terms.specs.declared.reason.Reason.{Reason}
use Rattle.rdf_terms.specs.declared.reason.Reason.TheVariants.{Memory as OutOfMemory, Ended, Sink}
use Rattle.rdf_stream.specs.declared.fault.StreamFault.{StreamFault}
use Rattle.rdf_stream.specs.declared.fault.StreamFault.TheVariants.{Refused}

-- the document is at fault, and neither memory nor the sink nor a reader that has ended
abbrev pub IsOfDocument : Reason → Type 0
IsOfDocument OutOfMemory = ⊥
IsOfDocument Sink = ⊥
IsOfDocument Ended = ⊥
IsOfDocument reason = Unit

-- What is refused is the document.
abbrev pub IsRefusal : StreamFault → Type 0
IsRefusal (Refused f) = IsOfDocument f.reason
IsRefusal reported = Unit

-- After a refusal what was written has been flushed.
abbrev pub IsSentOn : StreamFault → Bool → Type 0
IsSentOn (Refused f) flushed = flushed ≡ true
IsSentOn reported flushed = Unit
