pub mod Inode
