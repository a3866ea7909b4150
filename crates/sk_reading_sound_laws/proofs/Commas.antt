-- Items with commas between: what a loop over them has read.
use Rattle.std.proofs.Common.{◌≡◌, ℕ, zero, suc, ◌+◌, ◌<◌, Bool, true, false, cond, List, [], ◌∷◌, ◌++◌, length, map, ap, sym, subst, ◌∙◌, refl, arith, append_assoc}
use Rattle.sk_grammar.specs.ExpressionSpelling.{sign_at, with_commas, each}
use Rattle.sk_refusals.specs.declared.refusal.Refusal.TheVariants.{Syntax}
use Rattle.sk_tokens.specs.declared.token.Sign.TheVariants as sign
use Rattle.sk_tokens.specs.declared.token.Token.{Token}
use Rattle.sk_reading.specs.Reading.{Place, Read, Parser, and_then, refuse, advance, sees, after}
use Rattle.sk_reading_sound_laws.proofs.Steps.{bound, read-is, Takes, sign-takes, sees-sign}

-- ---- a loop that reads an item, and goes on where a comma follows

module _ {W A : Type 0} (item : Parser W) (made : W → A) (from : (turns : ℕ) → List A → Parser (List A)) where
  abbrev pub IsLoop : Type 0
  IsLoop =
      ((found : List A) (p : Place) → from zero found p ≡ refuse Syntax p)
      × ((turns : ℕ) (found : List A) (p : Place) → from (suc turns) found p
      ≡ and_then (item p) (λ w q. cond (sees sign.Comma q) (from turns (found ++ made w ∷ [])) (λ r. Read (found ++ made w ∷ [], r)) (after sign.Comma q)))

  -- what it has read, given what one item is and what an item before others is
  pub loop-sound : (AreItems : Place → List A → Place → Type 0) → IsLoop
      → ((p : Place) (a : W × Place) → item p ≡ Read a → AreItems p (made a.0 ∷ []) a.1)
      → ((p : Place) (a : W × Place) → item p ≡ Read a → (line : ℕ) → Takes (sign_at sign.Comma line) a.1 (advance a.1)
      → (es : List A) (q : Place) → AreItems (advance a.1) es q → AreItems p (made a.0 ∷ es) q)
      → (turns : ℕ) (found : List A) (p : Place) (x : List A × Place) → from turns found p ≡ Read x → (es : List A) × (x.0 ≡ found ++ es) × AreItems p es x.1
  unfolding after
  loop-sound AreItems loop last more zero found p x h = let none = loop.0 found p in absurd (cc)
  loop-sound AreItems loop last more (suc turns) found p x h =
      let (a, item-is, h) = bound (item p) _ x (sym (loop.1 turns found p) ∙ h) in
      go a item-is (sees sign.Comma a.1) refl h (λ q y. loop-sound AreItems loop last more turns (found ++ made a.0 ∷ []) q y)
    where
      go : (a : W × Place) → item p ≡ Read a → (b : Bool) → sees sign.Comma a.1 ≡ b
          → cond b (from turns (found ++ made a.0 ∷ [])) (λ r. Read (found ++ made a.0 ∷ [], r)) (cond b (advance a.1) a.1) ≡ Read x
          → ((q : Place) (y : List A × Place) → from turns (found ++ made a.0 ∷ []) q ≡ Read y → (es : List A) × (y.0 ≡ (found ++ made a.0 ∷ []) ++ es) × AreItems q es y.1)
          → (es : List A) × (x.0 ≡ found ++ es) × AreItems p es x.1
      go a is true follows h later =
          let (line, comma) = sign-takes a.1 sign.Comma (sees-sign a.1 sign.Comma follows) in
          let (es, all, others) = later (advance a.1) x h in
          (made a.0 ∷ es, all ∙ append_assoc found (made a.0 ∷ []) es, more p a is line comma es x.1 others)
      go a is false follows h later =
          let same = read-is h in
          (made a.0 ∷ [], sym (ap (λ y. y.0) same), subst (AreItems p (made a.0 ∷ [])) (ap (λ y. y.1) same) (last p a is))

-- ---- items whose spellings are kept in a list

module _ {W A : Type 0} (in_front : W → List Token → List Token) (tree : W → A) (Lawful : W → Type 0) where
  pub record IsItem (p : Place) (made : A) (q : Place) : Type 0 where
    pub written : W
    pub lawful : Lawful written
    pub tokens : p.rest ≡ in_front written q.rest
    pub is_tree : tree written ≡ made
    pub instances : q.instances ≡ p.instances

  pub record AreItems (p : Place) (made : List A) (q : Place) : Type 0 where
    pub written : List (W × ℕ)
    pub some : 0 < length written
    pub lawful : each (λ w. Lawful w.0) written
    pub tokens : p.rest ≡ with_commas in_front written q.rest
    pub are_trees : map (λ w. tree w.0) written ≡ made
    pub instances : q.instances ≡ p.instances

  last-item : (p : Place) (a : A) (q : Place) → IsItem p a q → AreItems p (a ∷ []) q
  last-item p a q s = record {
    written = (s.written, 0) ∷ [];
    some = omega arith;
    lawful = (s.lawful, tt);
    tokens = s.tokens;
    are_trees = ap (λ e. e ∷ []) s.is_tree;
    instances = s.instances;
  }

  one-more : (p : Place) (a : A) (q : Place) → IsItem p a q → (line : ℕ) → Takes (sign_at sign.Comma line) q (advance q)
      → (es : List A) (r : Place) → AreItems (advance q) es r → AreItems p (a ∷ es) r
  one-more p a q s line comma es r others = go others.written others.some others.lawful others.tokens others.are_trees
    where
      go : (l : List (W × ℕ)) → 0 < length l → each (λ w. Lawful w.0) l → (advance q).rest ≡ with_commas in_front l r.rest → map (λ w. tree w.0) l ≡ es → AreItems p (a ∷ es) r
      go [] some lawful tokens are_trees = absurd (omega arith)
      go (b ∷ l) some lawful tokens are_trees = record {
        written = (s.written, line) ∷ b ∷ l;
        some = omega arith;
        lawful = (s.lawful, lawful);
        tokens = s.tokens ∙ ap (in_front s.written) (comma.tokens ∙ ap (λ z. sign_at sign.Comma line ∷ z) tokens);
        are_trees = ap (λ e. e ∷ map (λ w. tree w.0) (b ∷ l)) s.is_tree ∙ ap (λ l. a ∷ l) are_trees;
        instances = others.instances ∙ comma.instances ∙ s.instances;
      }

  pub commas-sound : {V : Type 0} (item : Parser V) (made : V → A) (from : (turns : ℕ) → List A → Parser (List A)) → IsLoop item made from
      → ((p : Place) (a : V × Place) → item p ≡ Read a → IsItem p (made a.0) a.1)
      → (turns : ℕ) (found : List A) (p : Place) (x : List A × Place) → from turns found p ≡ Read x → (es : List A) × (x.0 ≡ found ++ es) × AreItems p es x.1
  commas-sound item made from loop sound =
      loop-sound item made from AreItems loop (λ p a is. last-item p (made a.0) a.1 (sound p a is))
      (λ p a is line comma es q others. one-more p (made a.0) a.1 (sound p a is) line comma es q others)
