-- The fault that a load makes of that of the file.
use Rattle.rdf_iri.specs.declared.fault.BindingReason.{BindingReason}
use Rattle.rdf_iri.specs.declared.fault.BindingReason.TheVariants.{Memory as OutOfMemory}
use Rattle.rdf_iri.specs.declared.fault.BindingFault.{BindingFault}
use Rattle.rdf_stream.specs.declared.fault.LoadFault.{LoadFault}
use Rattle.rdf_stream.specs.declared.fault.LoadFault.TheVariants.{Memory, Bad}

-- the fault of a load, by the fault of the file
abbrev pub load_fault : BindingReason → BindingFault → LoadFault
load_fault OutOfMemory f = Memory
load_fault reason f = Bad f
