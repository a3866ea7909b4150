-- Lines leave no trace in what is printed.
use Rattle.std.specs.Prelude.{◌≡◌}
use Rattle.sk_tree.specs.declared.tree.Program.{Program}
use Rattle.sk_printed.specs.ProgramText.{printed_of}
use Rattle.sk_printed.specs.ReadsBack.{IsSameButLines}

-- programs that are the same but for their lines are printed alike
abbrev pub PrintsAlike : Type 0
PrintsAlike = (one other : Program) → IsSameButLines one other → printed_of one ≡ printed_of other
