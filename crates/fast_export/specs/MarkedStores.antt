-- The marks that objects of a store have.
use Rattle.std.specs.Prelude.{ℕ, List}
use Rattle.git_objects.specs.Paths.{Bytes}
use Rattle.object_store.specs.Objects.{IsStore}
use Rattle.fast_export.specs.ExportTexts.{Marks}
use Rattle.fast_export.specs.Given.{AreHeldBlobs, marks_in}
use Rattle.fast_export.specs.declared.marked_store.MarkedStore.{MarkedStore}

abbrev pub marks_of : MarkedStore → Marks
marks_of m = marks_in m.store.now m.marks.now

abbrev pub blobs_of : MarkedStore → List (ℕ × Bytes)
blobs_of m = (marks_of m).blobs

-- the store is one, and has the blobs that have marks
pub record IsMarked (m : MarkedStore) : Type 0 where
  pub store : IsStore m.store.now
  pub held : AreHeldBlobs m.store.now m.marks.now
