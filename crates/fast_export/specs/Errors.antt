-- Why a text isn't written, by the sink.
use Rattle.proj_io.specs.declared.source.SinkError.{SinkError}
use Rattle.proj_io.specs.declared.source.SinkError.TheVariants as sinks
use Rattle.fast_export.specs.declared.error.ExportError.{ExportError}
use Rattle.fast_export.specs.declared.error.ExportError.TheVariants.{Fault, OutOfMemory}

abbrev pub error_of : SinkError → ExportError
error_of sinks.Failed = Fault
error_of sinks.OutOfMemory = OutOfMemory
