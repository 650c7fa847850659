-- Whether two kinds are the same.
use Rattle.std.specs.Prelude.{Bool, true, false}
use Rattle.device.specs.declared.interface.Kind.{Kind}
use Rattle.device.specs.declared.interface.Kind.TheVariants.{Rewritable, WriteOnce}

abbrev pub same_kind : Kind → Kind → Bool
same_kind Rewritable Rewritable = true
same_kind Rewritable WriteOnce = false
same_kind WriteOnce Rewritable = false
same_kind WriteOnce WriteOnce = true
