-- The laws of alike at k: every list is alike to itself, it goes both ways and on through a third list,
-- and lists that are alike have unions that are. Assumes nothing.
use Prim.Native.Nat.{ℕ, ◌<◌}
use mathlib.Core.Bool.{Bool}
use mathlib.Core.Logic.{◌⊎◌, ◌⊎◌.inl, ◌⊎◌.inr}
use mathlib.Core.List.{List}
use Rattle.laws.specs.Count.{count}
use Rattle.network.specs.Lines.{network}
use Rattle.network.specs.Chains.{Hop, Every}
use Rattle.network.specs.Faults.{Sound}
use Rattle.network.proofs.Chains.{chain_hop, chain_by, chain_map}
use Rattle.pieces.specs.Joined.{Remains, Joined}
use Rattle.unite.specs.Union.{united}
use Rattle.unite.proofs.Neighbours.{united_hop}
use Rattle.certificate.specs.Alike.{Alike}

pub alike_same : {n k : ℕ} {lines : List ℕ} → Alike n k lines lines
alike_same = record { same = λ away few u v ru rv. (λ c. c, λ c. c) }

pub alike_back : {n k : ℕ} {first second : List ℕ} → Alike n k first second → Alike n k second first
alike_back a = record { same = λ away few u v ru rv. ((a.same away few u v ru rv).1, (a.same away few u v ru rv).0) }

pub alike_then : {n k : ℕ} {first second third : List ℕ} → Alike n k first second → Alike n k second third → Alike n k first third
alike_then a b = record {
  same = λ away few u v ru rv.
      let (there, back) = a.same away few u v ru rv in
      let (there', back') = b.same away few u v ru rv in
      (λ c. there' (there c), λ c. back (back' c));
}

-- What a union joins, the union of lists that are alike joins: each hop of either list becomes a chain.
united_joins : {n k : ℕ} {a a' b b' : List ℕ} → Sound n a → Sound n b → Sound n a' → Sound n b' → Alike n k a a' → Alike n k b b'
    → (away : ℕ → Bool) → count n away < k → {u v : ℕ} → Joined n (united a b) away u v → Joined n (united a' b') away u v
united_joins {n} {k} {a} {a'} {b} {b'} sa sb sa' sb' alike alike' away few c = chain_by (λ u v ru rv h. go u v ru rv ((united_hop sa sb u v).0 h)) c
  where
    go : (u v : ℕ) → Remains n away u → Remains n away v → Hop (network n a) Every u v ⊎ Hop (network n b) Every u v → Joined n (united a' b') away u v
    go u v ru rv (inl h) = chain_map (λ u v k. (united_hop sa' sb' u v).1 (inl k)) ((alike.same away few u v ru rv).0 (chain_hop ru rv h))
    go u v ru rv (inr h) = chain_map (λ u v k. (united_hop sa' sb' u v).1 (inr k)) ((alike'.same away few u v ru rv).0 (chain_hop ru rv h))

-- THEOREM. Lists that are alike have unions that are alike.
pub alike_united : {n k : ℕ} {a a' b b' : List ℕ} → Sound n a → Sound n b → Sound n a' → Sound n b' → Alike n k a a' → Alike n k b b'
    → Alike n k (united a b) (united a' b')
alike_united sa sb sa' sb' alike alike' =
    record {
      same = λ away few u v ru rv. (
        λ c. united_joins sa sb sa' sb' alike alike' away few c,
        λ c. united_joins sa' sb' sa sb (alike_back alike) (alike_back alike') away few c,
      );
    }
