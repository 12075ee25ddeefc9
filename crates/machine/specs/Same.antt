-- What a method of a machine keeps: the settings, and that Z and ZA are those that it was lent.
use Rattle.std.specs.Prelude.{◌≡◌}
use Rattle.machine.specs.declared.Machine.{Machine}

abbrev pub SameMachine : Machine → Machine → Type 0
SameMachine before after = (after.settings ≡ before.settings) × (after.z.ghost_name ≡ before.z.ghost_name) × (after.za.ghost_name ≡ before.za.ghost_name)
