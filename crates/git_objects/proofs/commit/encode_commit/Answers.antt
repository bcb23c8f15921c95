use Rattle.std.proofs.Common.{◌≡◌, List, ap, sym, ◌∙◌, ◌++◌, [], map, arith}
use Rattle.std.proofs.lemmas.List.{length-map}
use Rattle.std.specs.List.{list_all}
use Rattle.git_objects.specs.Commits.{parent_lines, commit_body}
use Rattle.git_objects.specs.Parts.{name_bytes, commit_of}
use Rattle.git_objects.specs.Bodies.{is_name}
use Rattle.git_objects.specs.declared.name.Name.{Name}
use Rattle.git_objects.proofs.CommitReading.{spelled_law}
use Rattle.git_objects.proofs.Spellings.{commit_joined}
use Rattle.git_objects.proofs.commit.encode_commit.Goals as goal
use Rattle.git_objects.proofs.commit.encode_commit.Goals.{In_ok-add_letter}

spelled : (c : In_ok-add_letter) → c.add_letter.new.body.items ≡ commit_body (commit_of c.args.parts.now)
spelled c =
    commit_joined c.in_ok-body.body.items c.add_name.new.body.items c.add_parents.new.body.items _ c.args.parts.now.tree.0 (map name_bytes c.args.parts.now.parents.items) (commit_of c.args.parts.now).letter
    c.in_ok-body.ensures.items
    c.in_ok-add_name.ensures.body
    (c.in_ok-add_parents.ensures.body ∙ ap (λ ps. c.add_name.new.body.items ++ parent_lines (map name_bytes ps) []) c.deref.ensures.value)
    c.in_ok-add_letter.ensures.letter

pub returns-clause-body : goal.returns-clause-body
returns-clause-body c = spelled c

pub returns-clause-read_back : goal.returns-clause-read_back
returns-clause-read_back c =
    spelled_law c.add_letter.new.body.items (commit_of c.args.parts.now)
    (record {
      tree = c.in_ok-add_name.ensures.name;
      parents = ap (λ (ps : List Name). list_all is_name (map name_bytes ps)) (sym c.deref.ensures.value) ∙ c.in_ok-add_parents.ensures.names;
      few = omega (arith, length-map c.args.parts.now.parents.items name_bytes);
      author = c.in_ok-add_letter.ensures.author;
      committer = c.in_ok-add_letter.ensures.committer;
      spelled = sym (spelled c);
    })
