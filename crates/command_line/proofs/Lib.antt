pub mod ArgumentLists
pub mod FolderRequests
