use Rattle.std.proofs.Common.{◌≡◌, ◌++◌, drop, map}
use Rattle.std.specs.List.{flat_map}
use Rattle.sk_printed.specs.StatementText.{line_text, shown_statement}
use Rattle.sk_printer.proofs.statements.+statement.Given as goal

-- what is appended and what is left are the whole
abbrev pub invariant-put_lines-loop-statement : goal.invariant-put_lines-loop-statement
invariant-put_lines-loop-statement l =
    l.out.items ++ flat_map (line_text l.indent) (map shown_statement (drop l.statement-index l.statements))
    ≡ l.initial.out.items ++ flat_map (line_text l.indent) (map shown_statement l.statements)
