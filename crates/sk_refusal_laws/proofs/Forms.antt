-- What is read as a statement that ends with `;` is the same with both lists.
use Rattle.std.proofs.Common.{◌≡◌, ℕ, zero, suc, ◌<◌, ◌≤◌, Bool, true, false, cond, List, [], ◌∷◌, ◌++◌, length, drop, ℤ, codes, Option, Some, None, refl, ap, arith}
use Rattle.sk_base.specs.declared.number.Op.{Op}
use Rattle.sk_base.specs.declared.number.Ty.{Ty}
use Rattle.sk_grammar.specs.Signs.{step_of, container_words, skeleton_words}
use Rattle.sk_refusals.specs.declared.refusal.Refusal.TheVariants.{Syntax}
use Rattle.sk_tokens.specs.declared.token.Sign.TheVariants as sign
use Rattle.sk_tokens.specs.declared.token.Token.{Token}
use Rattle.sk_tree.specs.declared.tree.Item.{Item}
use Rattle.sk_tree.specs.declared.tree.Item.TheVariants as item
use Rattle.sk_tree.specs.declared.tree.Setting.TheVariants as setting
use Rattle.sk_tree.specs.declared.tree.What.{What}
use Rattle.sk_tree.specs.declared.tree.What.TheVariants as what
use Rattle.sk_reading.specs.declared.next.Next.{Next}
use Rattle.sk_reading.specs.declared.next.Next.TheVariants as next
use Rattle.sk_reading.specs.declared.reach.Reach.TheVariants.{Whole, Sum}
use Rattle.sk_reading.specs.declared.keyword.Keyword.TheVariants as key
use Rattle.sk_reading.specs.declared.setting.SettingWord.{SettingWord}
use Rattle.sk_reading.specs.declared.setting.SettingWord.TheVariants as words
use Rattle.sk_reading.specs.declared.target.Target.{Target}
use Rattle.sk_reading.specs.declared.target.Target.TheVariants.{Element}
use Rattle.sk_reading.specs.Reading.{Place, Outcome, Read, Refused, Parser, and_then, ◌>>=◌, pure, peek, take, front, advance, is_sign, sees, expect, expect_keyword, name, ty, opened_by, word_in}
use Rattle.sk_reading.specs.ReadingAssignments.{value, target, target_by, stepped, update, step_by, assignment_by, assignment, declaration}
use Rattle.sk_reading.specs.ReadingForms.{filled, input, make_by, make, numbers_from, numbers, names_from, names, instance, begins_setting, one_word, setting_words, scan_words, line_words, edge_words, mode, set_by, set, printed_end, printed_by, printed, items_from, print, call_of, used, by_name, returned, short_by, begun, short}
use Rattle.sk_refusal_laws.proofs.Local.{under-then, under-if, Shrinks, Parting, Alike, Related, Both, Local, related-and_then, related-if, step, front-same, local-pure, local-refuse, local-peek, local-take, local-cond, local-front, local-turning, left-here, left-there}
use Rattle.sk_refusal_laws.proofs.Steps.{local-expect, local-expect_keyword, local-eat, local-name, local-word_in, local-number, local-text, local-ty, local-count_instance, local-opened, local-opened_by, local-commas}
use Rattle.sk_refusal_laws.proofs.Strict.{Strict, strict-then, strict-take, strict-expect, strict-name, strict-ty, strict-counted}
use Rattle.sk_refusal_laws.proofs.Assignments.{local-value, local-value_inside, local-places, local-target_by, local-target, local-update, local-assignment, local-declaration, declared_behind, local-declared_behind}

-- ---- containers

local-filled : {w : Parting} (left sizes : ℕ) (of : Ty) (container : List ℕ) → Local w (filled left sizes of container)
unfolding filled
local-filled left sizes of container =
    step (local-opened left) (λ _. step local-take (λ _. step (local-places left) (λ found. step (local-expect sign.CloseParen) (λ _. local-pure (what.Make sizes of container found)))))

local-input : {w : Parting} (left sizes : ℕ) (of : Ty) (container : List ℕ) → Local w (input left sizes of container)
unfolding input
local-input left sizes of container =
    step local-take (λ _. step (local-expect_keyword key.SkepuInput) (λ _. step (local-opened_by sign.OpenParen left) (λ _. step local-text (λ record_name.
    step (local-expect sign.CloseParen) (λ _. local-pure (what.Take sizes of container record_name))))))

local-make_by : {w : Parting} (left sizes : ℕ) (of : Ty) (container : List ℕ) (nx : Next) → Local w (make_by left sizes of container nx)
local-make_by left sizes of container (next.Sign sign.OpenParen) = local-filled left sizes of container
local-make_by left sizes of container (next.Sign sign.Eq) = local-input left sizes of container
local-make_by left sizes of container (next.Sign s) = local-refuse Syntax
local-make_by left sizes of container other = local-refuse Syntax

abbrev make_behind : ℕ → Parser What
make_behind left =
    expect sign.Path >>= (λ _. word_in container_words >>= (λ sizes. expect sign.Lt >>= (λ _. ty >>= (λ of. expect sign.Gt >>= (λ _. name >>= (λ container. peek >>= make_by left sizes of container))))))

local-make_behind : {w : Parting} (left : ℕ) → Local w (make_behind left)
local-make_behind left =
    step (local-expect sign.Path) (λ _. step (local-word_in container_words) (λ sizes. step (local-expect sign.Lt) (λ _. step local-ty (λ of.
    step (local-expect sign.Gt) (λ _. step local-name (λ container. step local-peek (λ kind. local-make_by left sizes of container kind)))))))

local-make : {w : Parting} (left : ℕ) → Local w (make left)
unfolding make
local-make left = step local-take (λ _. local-make_behind left)

-- ---- instances

local-numbers : {w : Parting} → Local w numbers
unfolding numbers numbers_from
local-numbers =
    step (local-eat sign.Lt) (λ some. local-cond some _ _
    (step (local-turning (λ n. numbers_from n []) (local-commas (λ _. _) (λ (written : Ty × ℤ). written.1) numbers_from (λ found p. refl, λ turns found p. refl) (λ _. local-number) []))
    (λ found. step (local-expect sign.Gt) (λ _. local-pure found))) (local-pure []))

local-names : {w : Parting} → Local w names
unfolding names names_from
local-names =
    local-turning (λ n. names_from n []) (local-commas (λ _. name) (λ written. written) names_from (λ found p. refl, λ turns found p. refl) (λ _. local-name) [])

abbrev instance_behind : ℕ → Parser What
instance_behind left =
    name >>= (λ declared. expect sign.Eq >>= (λ _. expect_keyword key.Skepu >>= (λ _. expect sign.Path >>= (λ _. word_in skeleton_words >>= (λ skeleton. numbers >>= (λ counts.
    opened_by sign.OpenParen left >>= (λ _. names >>= (λ functions. expect sign.CloseParen >>= (λ _.
    pure (what.Instance (record { name = declared; skeleton = skeleton; numbers = counts; functions = functions })))))))))))

local-instance_behind : {w : Parting} (left : ℕ) → Local w (instance_behind left)
local-instance_behind left =
    step local-name (λ declared. step (local-expect sign.Eq) (λ _. step (local-expect_keyword key.Skepu) (λ _.
    step (local-expect sign.Path) (λ _. step (local-word_in skeleton_words) (λ skeleton. step local-numbers (λ counts. step (local-opened_by sign.OpenParen left) (λ _.
    step local-names (λ functions. step (local-expect sign.CloseParen) (λ _.
    local-pure (what.Instance (record { name = declared; skeleton = skeleton; numbers = counts; functions = functions })))))))))))

local-instance : {w : Parting} (left : ℕ) → Local w (instance left)
unfolding instance
local-instance left = step local-count_instance (λ _. step local-take (λ _. local-instance_behind left))

-- ---- settings

local-mode : {w : Parting} {A : Type 0} (family : List (List ℕ × Unit {0})) (modes : List (List ℕ × A)) → Local w (mode family modes)
unfolding mode
local-mode family modes =
    step (local-expect_keyword key.Skepu) (λ _. step (local-expect sign.Path) (λ _. step (local-word_in family) (λ _. step (local-expect sign.Path) (λ _. local-word_in modes))))

local-set_by : {w : Parting} (left : ℕ) (kind : SettingWord) → Local w (set_by left kind)
local-set_by left words.Start = step (local-value_inside left) (λ e. local-pure (setting.Start e))
local-set_by left words.Pad = step (local-value_inside left) (λ e. local-pure (setting.Pad e))
local-set_by left words.Overlap = step (local-places left) (λ found. local-pure (setting.Overlap found))
local-set_by left words.Scan = step (local-mode (one_word (codes "ScanMode")) scan_words) (λ m. local-pure (setting.Scan m))
local-set_by left words.Lines = step (local-mode (one_word (codes "ReduceMode")) line_words) (λ m. local-pure (setting.Lines m))
local-set_by left words.Edge = step (local-mode (one_word (codes "Edge")) edge_words) (λ m. local-pure (setting.Edge m))

abbrev set_behind : ℕ → List ℕ → Parser What
set_behind left of = expect sign.Dot >>= (λ _. word_in setting_words >>= (λ kind. opened_by sign.OpenParen left >>= (λ _. set_by left kind >>= (λ made. expect sign.CloseParen >>= (λ _. pure (what.Set of made))))))

local-set_behind : {w : Parting} (left : ℕ) (of : List ℕ) → Local w (set_behind left of)
local-set_behind left of =
    step (local-expect sign.Dot) (λ _. step (local-word_in setting_words) (λ kind. step (local-opened_by sign.OpenParen left) (λ _. step (local-set_by left kind) (λ made.
    step (local-expect sign.CloseParen) (λ _. local-pure (what.Set of made))))))

local-set : {w : Parting} (left : ℕ) → Local w (set left)
unfolding set
local-set left = step local-name (λ of. local-set_behind left of)

-- ---- calls and assignments

local-call_of : {w : Parting} (left : ℕ) (to : Target) → Local w (call_of left to)
local-call_of left (Element function found) = local-pure (what.Call function found)
local-call_of left other = local-refuse Syntax

abbrev pub ended : ℕ → Target → Parser What
ended left to = λ p. cond (sees sign.Semi p) (call_of left to p) (update left to p)

local-ended : {w : Parting} (left : ℕ) (to : Target) → Local w (ended left to)
unfolding sees
local-ended left to = local-front (is_sign sign.Semi) (call_of left to) (update left to) (local-call_of left to) (local-update left to)

local-used : {w : Parting} (left : ℕ) → Local w (used left)
unfolding used
local-used left = step (local-target left) (λ to. local-ended left to)

pub regrouped : {A B C : Type 0} (o : Outcome A) (g : A → Parser B) (h : B → Parser C) → and_then (and_then o g) h ≡ and_then o (λ a p. and_then (g a p) h)
regrouped (Read x) g h = refl
regrouped (Refused refusal left) g h = refl

abbrev pub used_behind : ℕ → List ℕ → Parser What
used_behind left first = λ p. and_then (and_then (peek p) (target_by left first)) (ended left)

pub used-is : (left : ℕ) (p : Place) → used left p ≡ and_then (name p) (used_behind left)
unfolding used target
used-is left p = regrouped (name p) (λ first. peek >>= target_by left first) (ended left)

set-is : (left : ℕ) (p : Place) → set left p ≡ and_then (name p) (set_behind left)
unfolding set
set-is left p = refl

local-used_behind : {w : Parting} (left : ℕ) (first : List ℕ) → Local w (used_behind left first)
local-used_behind left first = step (step local-peek (λ kind. local-target_by left first kind)) (λ to. local-ended left to)

module _ {w : Parting} where
  -- behind the last token that is shared, nothing is compared
  last-named : {A : Type 0} (g g' : List ℕ → Parser A) → ((v : List ℕ) → Shrinks (g v)) → ((v : List ℕ) → Shrinks (g' v)) → (p p' : Place) → Alike w p p' → length p.rest ≡ suc (length w.one) → Related w (and_then (name p) g) (and_then (name p') g')
  last-named g g' shrinks shrinks' p p' alike last =
      related-and_then (name p) (name p') g g' (local-name.goes p p' alike) shrinks shrinks' (λ v q q' is is' next.
      absurd (omega (arith, strict-name p (v, q) (left-here p p' alike) is, ap length next.one, longer next.before)))
    where
      longer : (before : List Token) → length w.one < length (before ++ w.token ∷ w.one)
      longer [] = omega arith
      longer (token ∷ before) = omega (arith, longer before)

  by_name-goes : (left : ℕ) (p p' : Place) → Alike w p p' → Related w (by_name left p) (by_name left p')
  unfolding by_name begins_setting advance
  by_name-goes left p p' alike = go alike.before alike.one alike.other
    where
      last : length p.rest ≡ suc (length w.one) → (b b' : Bool) → Related w (cond b (set left p) (used left p)) (cond b' (set left p') (used left p'))
      last is true true = (local-set left).goes p p' alike
      last is true false = rw (set-is left p, used-is left p') (last-named (set_behind left) (used_behind left) (λ v. (local-set_behind {w = w} left v).shrinks) (λ v. (local-used_behind {w = w} left v).shrinks) p p' alike is)
      last is false true = rw (used-is left p, set-is left p') (last-named (used_behind left) (set_behind left) (λ v. (local-used_behind {w = w} left v).shrinks) (λ v. (local-set_behind {w = w} left v).shrinks) p p' alike is)
      last is false false = (local-used left).goes p p' alike

      go : (before : List Token) → p.rest ≡ before ++ w.token ∷ w.one → p'.rest ≡ before ++ w.token ∷ w.other → Related w (by_name left p) (by_name left p')
      go [] one other = last (ap length one) (begins_setting p) (begins_setting p')
      go (token ∷ before) one other =
          let ahead = front-same (advance p) (advance p') (record { before = before; one = ap (drop 1) one; other = ap (drop 1) other; nodes = alike.nodes; instances = alike.instances }) in
          related-if (begins_setting p) (begins_setting p') _ _ _ _ (ap (is_sign sign.Dot) ahead) ((local-set left).goes p p' alike) ((local-used left).goes p p' alike)

local-by_name : {w : Parting} (left : ℕ) → Local w (by_name left)
unfolding by_name
local-by_name {w} left = record {
  shrinks = λ p. under-if (suc (length p.rest)) (begins_setting p) (set left p) (used left p) ((local-set {w = w} left).shrinks p) ((local-used {w = w} left).shrinks p);
  goes = λ p p' alike. by_name-goes left p p' alike;
}

-- ---- prints

local-printed_end : {w : Parting} (left : ℕ) → Local w (printed_end left)
unfolding printed_end
local-printed_end left = step local-take (λ _. step (local-expect sign.Path) (λ _. step (local-word_in (one_word (codes "endl"))) (λ _. local-pure item.End)))

local-printed_by : {w : Parting} (left : ℕ) (nx : Next) → Local w (printed_by left nx)
local-printed_by left next.Text = step local-text (λ t. local-pure (item.Text t))
local-printed_by left (next.Keyword key.Std) = local-printed_end left
local-printed_by left (next.Keyword k) = step (local-value left Sum) (λ e. local-pure (item.Value e))
local-printed_by left other = step (local-value left Sum) (λ e. local-pure (item.Value e))

abbrev printed_behind : ℕ → Parser Item
printed_behind left = peek >>= printed_by left

local-printed_behind : {w : Parting} (left : ℕ) → Local w (printed_behind left)
local-printed_behind left = step local-peek (λ kind. local-printed_by left kind)

local-printed : {w : Parting} (left : ℕ) → Local w (printed left)
unfolding printed
local-printed left = step (local-expect sign.Shl) (λ _. local-printed_behind left)

abbrev print_behind : ℕ → Parser What
print_behind left =
    expect sign.Path >>= (λ _. word_in (one_word (codes "cout")) >>= (λ _. (λ (p : Place). items_from left (length p.rest) [] p) >>= (λ items. pure (what.Print items))))

abbrev items_further : (left turns : ℕ) → List Item → Item → Parser (List Item)
items_further left turns found shown = λ p. cond (sees sign.Shl p) (items_from left turns (found ++ shown ∷ []) p) (Read (found ++ shown ∷ [], p))

module _ (w : Parting) (left : ℕ) where
  strict-printed : Strict (printed left)
  unfolding printed
  strict-printed p x some is = strict-then (expect sign.Shl) (λ _. printed_behind left) (strict-expect sign.Shl) (λ _. (local-printed_behind {w = w} left).shrinks) p x some is

  items-shrinks : (turns : ℕ) (found : List Item) → Shrinks (items_from left turns found)
  unfolding items_from
  items-shrinks zero found p = omega arith
  items-shrinks (suc turns) found p =
      under-then (suc (length p.rest)) (printed left p) (items_further left turns found) ((local-printed {w = w} left).shrinks p) (λ shown q.
      under-if (suc (length q.rest)) (sees sign.Shl q) _ _ (items-shrinks turns (found ++ shown ∷ []) q) (omega arith))

  items-go : (n n' : ℕ) (found : List Item) (p p' : Place) → length p.rest ≤ n → length p'.rest ≤ n' → Alike w p p' → Related w (items_from left n found p) (items_from left n' found p')
  unfolding items_from sees
  items-go zero n' found p p' enough enough' alike = absurd (omega (arith, left-here p p' alike))
  items-go (suc n) zero found p p' enough enough' alike = absurd (omega (arith, left-there p p' alike))
  items-go (suc n) (suc n') found p p' enough enough' alike =
      related-and_then (printed left p) (printed left p') (items_further left n found) (items_further left n' found) ((local-printed left).goes p p' alike)
      (λ shown q. under-if (suc (length q.rest)) (sees sign.Shl q) _ _ (items-shrinks n (found ++ shown ∷ []) q) (omega arith))
      (λ shown q. under-if (suc (length q.rest)) (sees sign.Shl q) _ _ (items-shrinks n' (found ++ shown ∷ []) q) (omega arith)) (λ shown q q' is is' next.
      related-if (sees sign.Shl q) (sees sign.Shl q') _ _ _ _ (ap (is_sign sign.Shl) (front-same q q' next))
      (items-go n n' (found ++ shown ∷ []) q q' (omega (arith, strict-printed p (shown, q) (left-here p p' alike) is)) (omega (arith, strict-printed p' (shown, q') (left-there p p' alike) is')) next)
      (Both (found ++ shown ∷ []) q q' refl refl next))

  local-print_behind : Local w (print_behind left)
  local-print_behind =
      step (local-expect sign.Path) (λ _. step (local-word_in (one_word (codes "cout"))) (λ _. step (local-turning (λ n. items_from left n []) (record {
        shrinks = λ n. items-shrinks n [];
        goes = λ n n' p p' enough enough' alike. items-go n n' [] p p' enough enough' alike;
      })) (λ items. local-pure (what.Print items))))

  local-print : Local w (print left)
  unfolding print
  local-print = step local-take (λ _. local-print_behind)

-- ---- statements that end with `;`

local-returned : {w : Parting} (left : ℕ) → Local w (returned left)
unfolding returned
local-returned left = step local-take (λ _. step (local-value left Whole) (λ result. local-pure (what.Return result)))

local-short_by : {w : Parting} (left : ℕ) (nx : Next) → Local w (short_by left nx)
local-short_by left (next.Keyword key.Int) = local-declaration left
local-short_by left (next.Keyword key.Long) = local-declaration left
local-short_by left (next.Keyword key.Skepu) = local-make left
local-short_by left (next.Keyword key.Auto) = local-instance left
local-short_by {w} left (next.Keyword key.Std) = local-print w left
local-short_by left (next.Keyword key.Return) = local-returned left
local-short_by left (next.Keyword k) = local-assignment left
local-short_by left next.Name = local-by_name left
local-short_by left other = local-assignment left

pub local-begun : {w : Parting} (left : ℕ) → Local w (begun left)
unfolding begun
local-begun left = step local-peek (λ nx. local-short_by left nx)

pub local-short : {w : Parting} (left : ℕ) → Local w (short left)
unfolding short
local-short left = step (local-begun left) (λ does. step (local-expect sign.Semi) (λ _. local-pure does))

-- ---- a statement has a token

module _ (left : ℕ) (w : Parting) where
  strict-target : Strict (target left)
  unfolding target
  strict-target p x some is = strict-then name (λ first. peek >>= target_by left first) strict-name (λ first. (step {w = w} local-peek (λ kind. local-target_by left first kind)).shrinks) p x some is

  strict-set : Strict (set left)
  unfolding set
  strict-set p x some is = strict-then name (set_behind left) strict-name (λ of. (local-set_behind {w = w} left of).shrinks) p x some is

  strict-used : Strict (used left)
  unfolding used
  strict-used p x some is = strict-then (target left) (ended left) strict-target (λ to. (local-ended {w = w} left to).shrinks) p x some is

  strict-by_name : Strict (by_name left)
  unfolding by_name
  strict-by_name p x some is = go (begins_setting p) is
    where
      go : (b : Bool) → cond b (set left p) (used left p) ≡ Read x → length x.1.rest < length p.rest
      go true is = strict-set p x some is
      go false is = strict-used p x some is

  strict-step_by : (op : Option Op) → Strict (step_by left op)
  strict-step_by (Some with_op) = strict-then take (λ _. target left >>= (λ to. pure (stepped left to with_op))) strict-take (λ _. (step {w = w} (local-target left) (λ to. local-pure (stepped left to with_op))).shrinks)
  strict-step_by None = λ p x some is. absurd (cc)

  strict-assignment_by : (nx : Next) → Strict (assignment_by left nx)
  strict-assignment_by next.Name = strict-then (target left) (update left) strict-target (λ to. (local-update {w = w} left to).shrinks)
  strict-assignment_by (next.Sign s) = strict-step_by (step_of s)
  strict-assignment_by other = λ p x some is. absurd (cc)

  strict-assignment : Strict (assignment left)
  unfolding assignment
  strict-assignment p x some is = strict-assignment_by (front p) p x some is

  strict-declaration : Strict (declaration left)
  unfolding declaration
  strict-declaration p x some is = strict-then ty (declared_behind left) strict-ty (λ of. (local-declared_behind {w = w} left of).shrinks) p x some is

  strict-make : Strict (make left)
  unfolding make
  strict-make p x some is = strict-then take (λ _. make_behind left) strict-take (λ _. (local-make_behind {w = w} left).shrinks) p x some is

  strict-instance : Strict (instance left)
  unfolding instance
  strict-instance p x some is =
      strict-counted (λ _. take >>= (λ _. instance_behind left)) (λ _. strict-then take (λ _. instance_behind left) strict-take (λ _. (local-instance_behind {w = w} left).shrinks)) p x some is

  strict-print : Strict (print left)
  unfolding print
  strict-print p x some is = strict-then take (λ _. print_behind left) strict-take (λ _. (local-print_behind w left).shrinks) p x some is

  strict-returned : Strict (returned left)
  unfolding returned
  strict-returned p x some is =
      strict-then take (λ _. value left Whole >>= (λ result. pure (what.Return result))) strict-take (λ _. (step {w = w} (local-value left Whole) (λ result. local-pure (what.Return result))).shrinks) p x some is

  strict-short_by : (nx : Next) → Strict (short_by left nx)
  strict-short_by (next.Keyword key.Int) = strict-declaration
  strict-short_by (next.Keyword key.Long) = strict-declaration
  strict-short_by (next.Keyword key.Skepu) = strict-make
  strict-short_by (next.Keyword key.Auto) = strict-instance
  strict-short_by (next.Keyword key.Std) = strict-print
  strict-short_by (next.Keyword key.Return) = strict-returned
  strict-short_by (next.Keyword k) = strict-assignment
  strict-short_by next.Name = strict-by_name
  strict-short_by other = strict-assignment

  strict-begun : Strict (begun left)
  unfolding begun
  strict-begun p x some is = strict-short_by (front p) p x some is

  pub strict-short : Strict (short left)
  unfolding short
  strict-short p x some is =
      strict-then (begun left) (λ does. expect sign.Semi >>= (λ _. pure does)) strict-begun (λ does. (step {w = w} (local-expect sign.Semi) (λ _. local-pure does)).shrinks) p x some is
