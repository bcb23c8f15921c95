-- A history's lines upon a state.
use Rattle.std.proofs.Common.{◌≡◌, List, [], ◌∷◌, ◌++◌, map, reverse, Option, refl, ap, ◌∙◌}
use Rattle.std.specs.Prelude.{flat_map, zip}
use Rattle.std.specs.Option.{option_map}
use Rattle.git_objects.specs.Parts.{name_bytes}
use Rattle.git_objects.specs.Paths.{Bytes}
use Rattle.git_objects.specs.Snapshots.{Graph, ancestors, snapshot_name}
use Rattle.git_objects.specs.declared.name.Name.{Name}
use Rattle.filter_text.specs.Filters.{Filter}
use Rattle.projection_ground.specs.Grounds.{commits_of}
use Rattle.history_ground.specs.Before as before
use Rattle.state_items.specs.Items.{Held}
use Rattle.repo_ground.specs.Contents.{Contents}
use Rattle.proj_commands.specs.Makes.{IsStateOf}
use Rattle.proj_commands.proofs.Retargeting.{same-before}
use Rattle.proj_commands.proofs.StatesShown.{commits-are}
use Rattle.read_cli.specs.Outputs.{log_line, log_output, name_line}

-- each commit beside what is found of it
pub paired : (p : Bytes → Option Bytes) (cs : List Name) (os : List (Option Name)) → map (option_map name_bytes) os ≡ map (λ (n : Name). p n.0) cs
    → flat_map (λ e. name_line e.0.0 (option_map name_bytes e.1)) (zip cs os) ≡ flat_map (λ m. name_line m (p m)) (map name_bytes cs)
paired p [] os e = refl
paired p (c ∷ cs) [] e = cc
paired p (c ∷ cs) (o ∷ os) e =
    let here : option_map name_bytes o ≡ p c.0 = cc in
    let rest : map (option_map name_bytes) os ≡ map (λ (n : Name). p n.0) cs = cc in
    λ i. name_line c.0 (here i) ++ paired p cs os rest i

module _ (items : List Bytes) (h : Held) (s : Contents) (f : Filter) (n : Bytes) (w : IsStateOf items h s) where
  pub logged : (cs : List Name) (os : List (Option Name)) → map name_bytes cs ≡ map snapshot_name (reverse (ancestors (commits_of s.basis) n)) → map (option_map name_bytes) os ≡ map (λ (m : Name). before.shown_before f s.basis n m.0) cs
      → flat_map (λ e. name_line e.0.0 (option_map name_bytes e.1)) (zip cs os) ≡ log_output h f n
  logged cs os a b =
      paired (before.shown_before f s.basis n) cs os b
      ∙ (λ i. flat_map (λ m. name_line m (same-before items h s f n w i m)) (a i))
      ∙ ap (λ (g : Graph). flat_map (log_line h f n) (map snapshot_name (reverse (ancestors g n)))) (commits-are items h s f n w)
