-- Annotated tags of commits: Git's objects, and the commands of a stream that make them.
use Rattle.std.specs.Prelude.{List, [], ◌∷◌, ◌++◌, length, codes}
use Rattle.std.specs.Fmt.{decimal}
use Rattle.std.specs.List.{flat_map}
use Rattle.git_objects.specs.Paths.{Bytes}
use Rattle.git_objects.specs.Commits.{field, hex}
use Rattle.sha1.specs.Sha1.{sha1}
use Rattle.tag_objects.specs.declared.tag.Tag.{Tag}

-- the commit's digits, the kind of what is tagged, the name, who tagged it, an empty line and the message
abbrev pub tag_body : Tag → Bytes
tag_body t =
    field (codes "object") (hex t.target.0)
    (field (codes "type") (codes "commit")
    (field (codes "tag") t.name (field (codes "tagger") t.tagger (10 ∷ t.message))))

-- the word `tag`, a space, the body's length in decimal and a zero byte
abbrev pub tag_header : Bytes → Bytes
tag_header body = codes "tag " ++ decimal (length body) ++ 0 ∷ []

-- the 20 bytes of the name of a tag's object
unfoldable pub tag_object_name : Tag → Bytes
tag_object_name t = sha1 (tag_header (tag_body t) ++ tag_body t)

-- the command that makes the tag, upon a commit that is there by its digits
abbrev pub tag_text : Tag → Bytes
tag_text t =
    field (codes "tag") t.name
    (field (codes "from") (hex t.target.0)
    (field (codes "tagger") t.tagger (field (codes "data") (decimal (length t.message)) (t.message ++ 10 ∷ []))))

-- one behind the other
abbrev pub tags_text : List Tag → Bytes
tags_text ts = flat_map tag_text ts
