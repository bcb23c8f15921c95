use Rattle.git_objects.proofs.Order.{path_cmp-total, path_cmp-antisymmetric}
use Rattle.git_objects.proofs.Texts.{text_order}
use Rattle.path_names.proofs.laws.path_order_law.Goals as goal

pub returns : goal.returns
returns c = record { total = path_cmp-total; antisymmetric = path_cmp-antisymmetric; texts = text_order }
