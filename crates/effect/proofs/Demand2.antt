-- DEMAND 2: "Taken in written order, an accepted record sets exactly the entries its masks name and the values it lists, zeroes the tables
-- it drops, and touches nothing else." What an action says of a byte is `says` of specs/Meaning. Assumes nothing.
use mathlib.Core.Path.{◌≡◌, refl, ap, ◌∙◌}
use mathlib.Core.List.{List, [], ◌∷◌, ◌++◌}
use mathlib.Core.Option
use mathlib.Core.Option.{Option, none, some, or_else}
use Prim.Native.Nat.{ℕ, ◌<◌}
use lib.ListN.{length, get_or}
use Rattle.directory.specs.declared.directory.Directory.{Directory}
use Rattle.effect.specs.Effect.{Written, apply}
use Rattle.effect.specs.Meaning.{says, last_said, Sized}
use Rattle.effect.specs.Order.{Each}
use Rattle.effect.proofs.Bytes.{apply_at, length-apply}
use Rattle.effect.proofs.Exact.{record_said}

-- After a record's actions, taken in written order, each byte of the image is what the last of them that says anything of it says,
-- and the old byte where none does.
pub demand-2 : (d : Directory) (s : List Written) (image : List ℕ) (p : ℕ)
    → Each (Sized d) s  -- each payload has its length: so it is with every action that the reader takes (`payload-sized`, Sized)
    → p < length image  -- p is a position of the image
    → get_or (apply d s image) p 0 ≡ Option.get_or (last_said d s p) (get_or image p 0)
demand-2 d s image p sized h = apply_at d s image p h ∙ ap (λ (o : Option ℕ). Option.get_or o (get_or image p 0)) (record_said d s p sized)

-- and the image has as many bytes as before
pub same_length : (d : Directory) (s : List Written) (image : List ℕ) → length (apply d s image) ≡ length image
same_length = length-apply

-- ---- the same in two sentences

silent : (d : Directory) (s : List Written) (p : ℕ) → Each (λ w. says d w p ≡ none) s → last_said d s p ≡ none
unfolding last_said or_else
silent d [] p h = refl
silent d (w ∷ s) p h = rw (silent d s p h.1) h.0

-- "and touches nothing else"
pub touches_nothing_else : (d : Directory) (s : List Written) (image : List ℕ) (p : ℕ)
    → Each (Sized d) s  -- as above
    → p < length image  -- p is a position of the image
    → Each (λ w. says d w p ≡ none) s  -- no action says anything of it
    → get_or (apply d s image) p 0 ≡ get_or image p 0
touches_nothing_else d s image p sized h none-says = demand-2 d s image p sized h ∙ rw (silent d s p none-says)

said_last : (d : Directory) (front : List Written) (w : Written) (back : List Written) (p b : ℕ) → says d w p ≡ some b
    → Each (λ v. says d v p ≡ none) back → last_said d (front ++ w ∷ back) p ≡ some b
unfolding last_said or_else
said_last d [] w back p b e q = rw (silent d back p q) e
said_last d (v ∷ front) w back p b e q = rw (said_last d front w back p b e q)

-- "sets exactly the entries its masks name and the values it lists, zeroes the tables it drops"
pub sets_what_it_names : (d : Directory) (front : List Written) (w : Written) (back : List Written) (image : List ℕ) (p b : ℕ)
    → Each (Sized d) (front ++ w ∷ back)  -- as above
    → p < length image  -- p is a position of the image
    → says d w p ≡ some b  -- one action says that byte b is to stand there
    → Each (λ v. says d v p ≡ none) back  -- and none behind it says anything of p
    → get_or (apply d (front ++ w ∷ back) image) p 0 ≡ b
sets_what_it_names d front w back image p b sized h e q = demand-2 d (front ++ w ∷ back) image p sized h ∙ rw (said_last d front w back p b e q)
