use Rattle.std.proofs.Common.{◌≡◌, ◌++◌, drop}
use Rattle.sk_listing.specs.Listing.{lines_from}
use Rattle.sk_listing.proofs.lines.listing.Given as goal

-- the lines so far, and those of the instructions that are left
abbrev pub invariant-each : goal.invariant-each
invariant-each l = l.lines.items ++ lines_from l.at (drop l.at l.code.instrs) ≡ lines_from 0 l.code.instrs
