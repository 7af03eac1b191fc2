use Rattle.fd_disk.proofs.OutstandingLemmas.{folder_all_back, store_all_back, kept_stands, keeps_both, sealed_stands, new_shelf, table_out, table_back, shelf_back, folder_back, found_leaves, plant_leaves}
use Rattle.fd_disk.proofs.law.every_image.Goals as goal

pub returns-clause-folder_back : goal.returns-clause-folder_back
returns-clause-folder_back c = folder_all_back

pub returns-clause-store_back : goal.returns-clause-store_back
returns-clause-store_back c = store_all_back

pub returns-clause-kept : goal.returns-clause-kept
returns-clause-kept c = kept_stands

pub returns-clause-both : goal.returns-clause-both
returns-clause-both c = keeps_both

pub returns-clause-sealed : goal.returns-clause-sealed
returns-clause-sealed c = sealed_stands

pub returns-clause-shelf : goal.returns-clause-shelf
returns-clause-shelf c = new_shelf

pub returns-clause-table : goal.returns-clause-table
returns-clause-table c = table_out

pub returns-clause-give_table : goal.returns-clause-give_table
returns-clause-give_table c = table_back

pub returns-clause-give_shelf : goal.returns-clause-give_shelf
returns-clause-give_shelf c = shelf_back

pub returns-clause-give_folder : goal.returns-clause-give_folder
returns-clause-give_folder c = folder_back

pub returns-clause-found : goal.returns-clause-found
returns-clause-found c = found_leaves

pub returns-clause-plant : goal.returns-clause-plant
returns-clause-plant c = plant_leaves
