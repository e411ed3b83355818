-- A write that took some bytes leaves a longer front.
use Rattle.std.proofs.Common.{◌≡◌, ℕ, ◌+◌, ◌≤◌, List, ◌++◌, arith, rules, length, take, drop, ap, subst, sym, ◌∙◌, length-take}
use Rattle.std.proofs.lemmas.List.{take-take}
use Rattle.std.specs.Io.KnownBytes.{Appends}
use Rattle.std.proofs.KnownBytes.{Appends-trans}
use lib.Seq.{take-add}
use Rattle.console.proofs.write_front.Goals as goal

front_longer : (a n room : ℕ) (xs : List ℕ) → n ≤ length (take room (drop a xs)) → take a xs ++ take n (take room (drop a xs)) ≡ take (a + n) xs
front_longer a n room xs fits =
    let within : n ≤ room = omega (arith, length-take room (drop a xs)) in
    ap (λ l. take a xs ++ l) (take-take n room (drop a xs) within) ∙ sym (take-add a n xs)

pub loop-done-preserved : goal.loop-done-preserved
loop-done-preserved g c =
    let before = c.loop-done.invariant in
    let wrote = c.in_ok-taken.ensures in
    let all = Appends-trans _ _ _ _ _ before.2 wrote.bytes in
    (search rules, search rules, subst (Appends _ _) (front_longer _ _ _ _ wrote.bound) all)
