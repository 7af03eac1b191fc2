mod CreatedLemmas
mod Folders
mod Growing
mod Images
mod ReadLemmas
mod ReclaimLaws
mod Sessions
