-- The bounds of an expression of a function, which may stand at several places.
use Rattle.std.specs.Prelude.{◌≡◌, ◌≤ℤ◌, List, map, flat_map, All, Contains}
use Rattle.sk_safety.specs.Intervals.{Interval, bounded_of, subexpressions_of}
use Rattle.sk_safety.specs.Safety.{Judgements, Place, bounds_at, places_in}
use Rattle.sk_tree.specs.declared.tree.Expr.{Expr}
use Rattle.sk_tree.specs.declared.tree.Function.{Function}

-- an expression with its bounds at one place
pub record Occurrence : Type 0 where
  pub expr : Expr
  pub interval : Interval

-- the expressions of a function and all their parts, each with its bounds where it stands
abbrev pub occurrences_at : Judgements → Place → List Occurrence
occurrences_at earlier place =
    map (λ expr. record { expr = expr; interval = (bounded_of expr (bounds_at earlier place.scope)).interval }) (subexpressions_of place.expr)

abbrev pub occurrences_in : Judgements → Function → List Occurrence
occurrences_in earlier function = flat_map (occurrences_at earlier) (places_in function)

-- The interval is the least one that has the bounds of an expression at each place where it stands.
pub record IsHull (occurrences : List Occurrence) (expr : Expr) (interval : Interval) : Type 0 where
  pub covers : All (λ (o : Occurrence). o.expr ≡ expr → (interval.low ≤ℤ o.interval.low) × (o.interval.high ≤ℤ interval.high)) occurrences
  pub low : (high : _) × Contains occurrences (record { expr = expr; interval = record { low = interval.low; high = high } })
  pub high : (low : _) × Contains occurrences (record { expr = expr; interval = record { low = low; high = interval.high } })

-- the interval of an expression of a function
abbrev pub HasInterval : Judgements → Function → Expr → Interval → Type 0
HasInterval earlier function expr interval = IsHull (occurrences_in earlier function) expr interval
