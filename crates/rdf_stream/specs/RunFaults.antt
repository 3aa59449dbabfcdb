-- The fault that a run makes of that of its reader.
use Rattle.rdf_terms.specs.declared.reason.Reason.{Reason}
use Rattle.rdf_terms.specs.declared.reason.Reason.TheVariants.{Memory as OutOfMemory, Sink}
use Rattle.rdf_tokens.specs.declared.token.Fault.{Fault}
use Rattle.rdf_stream.specs.declared.fault.StreamFault.{StreamFault}
use Rattle.rdf_stream.specs.declared.fault.StreamFault.TheVariants.{Refused, Write, Memory}

-- want of memory and a failing sink are faults of the run; for any other reason the document is refused
abbrev pub fault_by : Reason → Fault → StreamFault
fault_by OutOfMemory f = Memory
fault_by Sink f = Write
fault_by reason f = Refused f
